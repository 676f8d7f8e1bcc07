use Rattle.block_store.proofs.Pieces.{ends_split}
use Rattle.block_store.proofs.looking.search.partition_point.Goals as goal

pub passing_blocks-block-requires : goal.passing_blocks-block-requires
passing_blocks-block-requires g c = ends_split g.R.Row.value (g.T.Test.test c.args.test.now) c.args.pieces.now c.requires
