use Rattle.std.proofs.Common.{◌≡◌, map, get_or, sym, ap, ◌∙◌, Global, arith, rules}
use Rattle.std.specs.declared.sync.Arc.{Arc}
use Rattle.std.proofs.lemmas.List.{get_or-map}
use Rattle.std.proofs.lemmas.List.Sorted.{IsPartitionPoint-from_clause}
use Rattle.willow_entry.specs.Row.{RowValue}
use Rattle.block_store.proofs.Finding.{none_passes, seen_split, seen_point}
use Rattle.block_store.proofs.looking.search.passing_rows.Goals as goal

pub returns-clause-point : goal.returns-clause-point
returns-clause-point g c =
    let value : Arc g.row.R.Denot Global → RowValue = λ a. g.R.Row.value a.value in
    let test = g.T.Test.test c.args.test.now in
    let rows = c.args.rows.now in
    seen_point value test rows _ c.partition_point.ensures.bound
    (IsPartitionPoint-from_clause (λ a. test (value a)) _ _ c.partition_point.ensures.partitioned (seen_split value test rows c.requires) (λ a r q k. search rules))

pub returns-then-not-passes-clause-point : goal.returns-then-not-passes-clause-point
returns-then-not-passes-clause-point g c =
    let value : Arc g.row.R.Denot Global → RowValue = λ a. g.R.Row.value a.value in
    let test = g.T.Test.test c.args.test.now in
    let rows = c.args.rows.now in
    let held = c.index-rows-0.result in
    let first : get_or (map value rows) 0 (value held) ≡ value held = get_or-map value rows 0 held (value held) (omega arith) ∙ ap value (sym c.index-rows-0.is) in
    none_passes test (map value rows) (value held) c.requires
    (ap test first ∙ ap (λ x. test (g.R.Row.value x)) (sym c.deref.ensures) ∙ sym c.passes.ensures ∙ c.if-not-passes.true)
