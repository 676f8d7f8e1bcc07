use Rattle.block_store.proofs.Pieces.{index_next}
use Rattle.block_store.proofs.changing.put.blocks_before.Goals as goal

pub returns-then-end-gt0-clause-upto : goal.returns-then-end-gt0-clause-upto
returns-then-end-gt0-clause-upto g c = (index_next c.args.pieces.now c.args.end c.requires c.if-end-gt0.true).1
