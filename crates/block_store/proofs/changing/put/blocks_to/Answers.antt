use Rattle.std.proofs.Common.{arith}
use Rattle.block_store.proofs.Pieces.{rows_rise}
use Rattle.block_store.proofs.changing.put.blocks_to.Goals as goal

pub returns-clause-upto : goal.returns-clause-upto
returns-clause-upto g c = omega (arith, c.blocks_before.ensures.upto, rows_rise c.args.pieces.now c.blocks_before.result c.max.result (omega arith))
