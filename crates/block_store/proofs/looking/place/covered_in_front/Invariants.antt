use Rattle.block_store.specs.Blocks.{block_values}
use Rattle.block_store.specs.Front.{ReachFrom}
use Rattle.block_store.proofs.looking.place.covered_in_front.Given as goal

abbrev pub invariant-loop-count : goal.invariant-loop-count
invariant-loop-count g l = ReachFrom (block_values g.R.Row.value l.pieces) (g.R.Row.value l.row) l.count
