use Rattle.std.proofs.Common.{sym, ap, ◌∙◌, arith, rules}
use Rattle.std.proofs.lemmas.List.Sorted.{IsPartitionPoint-from_clause}
use Rattle.block_store.specs.Blocks.{last_passes}
use Rattle.block_store.specs.Held.{values_of}
use Rattle.block_store.proofs.Finding.{all_pass}
use Rattle.block_store.proofs.looking.search.passing_blocks.Goals as goal

pub returns-then-ends_passing-clause-point : goal.returns-then-ends_passing-clause-point
returns-then-ends_passing-clause-point g c =
    let test = g.T.Test.test c.args.test.now in
    let ends = c.if-ends_passing.true in
    all_pass (λ p. last_passes test (values_of g.R.Row.value p.block.value.rows.items)) c.args.pieces.now c.index-pieces-count.result c.requires (omega arith)
    (ap (λ b. last_passes test (values_of g.R.Row.value b.rows.items)) (sym c.deref.ensures) ∙ sym c.ends_passing.ensures ∙ ends)

pub returns-clause-point : goal.returns-clause-point
returns-clause-point g c =
    IsPartitionPoint-from_clause (λ p. last_passes (g.T.Test.test c.args.test.now) (values_of g.R.Row.value p.block.value.rows.items)) _ _
    c.partition_point.ensures.partitioned c.requires (λ a r q k. search rules)
