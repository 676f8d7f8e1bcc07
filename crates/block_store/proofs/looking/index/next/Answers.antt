use Rattle.std.proofs.Common.{get_or, arith}
use Rattle.block_store.proofs.Finding.{item_of}
use Rattle.block_store.proofs.Pieces.{row_inside, spot_inside}
use Rattle.block_store.proofs.looking.index.next.Goals as goal

pub overflow_add-row : goal.overflow_add-row
overflow_add-row g c =
    let pieces = c.args.pieces.now in
    let spot = c.args.spot in
    let inside = spot_inside pieces spot c.requires.spot c.requires.some in
    let p = item_of pieces (omega arith) in
    let piece = get_or pieces spot.block p in
    omega (arith, row_inside pieces spot c.requires.spot p inside, piece.block.value.sized.1, piece.block.value.rows.ok.0)
