use Rattle.std.proofs.Common.{length, arith}
use Rattle.std.proofs.lemmas.List.{get_or-map}
use Rattle.block_store.specs.declared.block.Piece.{Piece}
use Rattle.block_store.proofs.Finding.{item_of}
use Rattle.block_store.proofs.Pieces.{row_inside}
use Rattle.block_store.proofs.changing.put.entry.Goals as goal

pub returns-then-at-pieces-clause-row : goal.returns-then-at-pieces-clause-row
returns-then-at-pieces-clause-row g c =
    let pieces = c.args.pieces.now in
    let at = c.args.at in
    let p = item_of pieces c.requires.some in
    omega (arith, row_inside pieces at c.requires.spot p (omega arith), get_or-map (λ (q : Piece g.row.R.Denot g.R.Row). length q.block.value.rows.items) pieces at.block p 0 (omega arith))
