use Rattle.std.proofs.Common.{◌≡◌, take}
use Rattle.block_store.specs.Blocks.{block_values}
use Rattle.block_store.specs.InBox.{is_in}
use Rattle.block_store.specs.Positions.{positions}
use Rattle.block_store.proofs.reading.walk.positions_in.Given as goal

abbrev pub invariant-loop-i : goal.invariant-loop-i
invariant-loop-i g l = l.found.items ≡ positions (is_in l.area) (block_values g.R.Row.value (take l.i l.listing.pieces.items))
