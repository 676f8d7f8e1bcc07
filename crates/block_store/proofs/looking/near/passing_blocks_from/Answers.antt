use Rattle.std.proofs.Common.{◌≡◌, false, get_or, sym, ap, ◌∙◌, arith}
use Rattle.std.proofs.lemmas.List.{get_or_default}
use Rattle.block_store.specs.Blocks.{last_passes}
use Rattle.block_store.specs.Held.{values_of}
use Rattle.block_store.specs.declared.block.Piece.{Piece}
use Rattle.block_store.proofs.Finding.{point_between}
use Rattle.block_store.proofs.looking.near.passing_blocks_from.Goals as goal

pub returns-then-not-ends_passing-2-clause-point : goal.returns-then-not-ends_passing-2-clause-point
returns-then-not-ends_passing-2-clause-point g c =
    let test = g.T.Test.test c.args.test.now in
    let ends = λ (p : Piece g.row.R.Denot g.R.Row). last_passes test (values_of g.R.Row.value p.block.value.rows.items) in
    let pieces = c.args.pieces.now in
    let block = c.loop-block.block in
    let piece = c.index-pieces-block.result in
    let here : ends (get_or pieces block piece) ≡ false =
    ap (λ b. last_passes test (values_of g.R.Row.value b.rows.items)) (sym c.deref-in-loop-block.ensures) ∙ sym c.ends_passing-in-loop-block.ensures ∙ c.if-not-ends_passing-2.true in
    point_between ends pieces block c.requires (λ p some within. c.loop-block.invariant p some)
    (λ p lt. ap ends (get_or_default pieces block p piece lt) ∙ here) (omega arith)
