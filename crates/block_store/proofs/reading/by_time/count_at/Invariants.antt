use Rattle.std.proofs.Common.{◌≡◌, ◌≤◌, length, take}
use Rattle.block_store.specs.Blocks.{block_values}
use Rattle.block_store.specs.ByTime.{found_at}
use Rattle.block_store.proofs.reading.by_time.count_at.Given as goal

abbrev pub invariant-loop-i : goal.invariant-loop-i
invariant-loop-i g l = record {
  counted : l.count ≡ length (found_at l.area (block_values g.R.Row.value l.listing.pieces.items) (take l.i l.ats));
  fits : l.count ≤ l.i;
}
