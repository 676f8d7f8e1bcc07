use Rattle.std.proofs.Common.{◌≡◌, ◌+◌, ◌≤◌, take}
use Rattle.lane_sum.specs.Totals.{total_by}
use Rattle.block_store.specs.Blocks.{block_values}
use Rattle.block_store.specs.ByTime.{found_at}
use Rattle.block_store.specs.BytesAt.{row_bytes_at}
use Rattle.block_store.proofs.reading.by_time.total_at.Given as goal

abbrev pub invariant-loop-i : goal.invariant-loop-i
invariant-loop-i g l = record {
  added : l.total ≡ total_by (row_bytes_at (block_values g.R.Row.value l.listing.pieces.items)) (found_at l.area (block_values g.R.Row.value l.listing.pieces.items) (take l.i l.ats));
  few : l.steps ≤ l.fn.steps + l.i;
}
