use Rattle.block_store.specs.Blocks.{block_values, index_of}
use Rattle.block_store.specs.Front.{front}
use Rattle.block_store.proofs.Extending.{place_found, below_split}
use Rattle.block_store.proofs.looking.place.place.Goals as goal

pub partition_point_behind-requires : goal.partition_point_behind-requires
partition_point_behind-requires g c = below_split (front (g.R.Row.value c.args.row.now) c.args.count) (block_values g.R.Row.value c.args.pieces.now) c.requires

pub returns-clause-place : goal.returns-clause-place
returns-clause-place g c = place_found (front (g.R.Row.value c.args.row.now) c.args.count) (block_values g.R.Row.value c.args.pieces.now) (index_of c.args.pieces.now c.partition_point_behind.result) c.partition_point_behind.ensures.point
