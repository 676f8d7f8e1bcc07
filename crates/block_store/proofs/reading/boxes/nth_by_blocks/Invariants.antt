use Rattle.std.proofs.Common.{◌≡◌, ◌+◌, length, take}
use Rattle.block_store.specs.Blocks.{block_values}
use Rattle.block_store.specs.InBox.{rows_in}
use Rattle.block_store.proofs.reading.boxes.nth_by_blocks.Given as goal

abbrev pub invariant-loop-i : goal.invariant-loop-i
invariant-loop-i g l = l.n ≡ length (rows_in l.area (block_values g.R.Row.value (take l.i l.listing.pieces.items))) + l.left
