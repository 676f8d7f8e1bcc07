use Rattle.block_store.proofs.Pieces.{ends_split}
use Rattle.block_store.proofs.looking.near.partition_point_behind.Goals as goal

pub passing_blocks_near-block-requires : goal.passing_blocks_near-block-requires
passing_blocks_near-block-requires g c = ends_split g.R.Row.value (g.T.Test.test c.args.test.now) c.args.pieces.now c.requires
