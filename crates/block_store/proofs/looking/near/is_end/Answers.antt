use Rattle.std.proofs.Common.{◌-◌, get_or, sym, ◌∙◌, arith}
use Rattle.std.proofs.lemmas.Option.{slice_get-get_or}
use Rattle.block_store.specs.Blocks.{block_values, index_of}
use Rattle.block_store.proofs.Finding.{point_between}
use Rattle.block_store.proofs.Pieces.{values_long, index_bound}
use Rattle.block_store.proofs.looking.near.is_end.Goals as goal

pub returns-clause-point : goal.returns-clause-point
returns-clause-point g c = λ passes.
    let pieces = c.args.pieces.now in
    let rows = block_values g.R.Row.value pieces in
    let n = index_of pieces c.args.at in
    let is = c.is_spot.ensures c.if-not-is_spot.false in
    point_between (g.T.Test.test c.args.test.now) rows n c.requires
    (λ d some within. c.passes_before.ensures passes (get_or rows (n - 1) d) (n - 1) (omega arith) (slice_get-get_or rows (n - 1) d (omega arith)))
    (λ d lt. sym (c.passes_at.ensures (get_or rows n d) (slice_get-get_or rows n d lt)) ∙ c.if-passes_at.false)
    (omega (arith, index_bound pieces c.args.at is, values_long g.R.Row.value pieces))
