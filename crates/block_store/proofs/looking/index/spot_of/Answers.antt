use Rattle.std.proofs.Common.{◌+◌, get_or, arith}
use Rattle.block_store.proofs.Pieces.{rows_next, rows_within}
use Rattle.block_store.proofs.looking.index.spot_of.Goals as goal

pub returns-then-left-len-clause-index : goal.returns-then-left-len-clause-index
returns-then-left-len-clause-index g c =
    let pieces = c.args.pieces.now in
    let block = c.loop-block.block in
    let piece = get_or pieces block c.index-pieces-block.result in
    omega (arith, c.loop-block.invariant, piece.counted, piece.block.value.rows.ok.0, rows_next pieces block c.index-pieces-block.result (omega arith), rows_within pieces (block + 1))
