use Rattle.std.proofs.Common.{◌≡◌, ◌+◌, ◌≤◌, true, length, take}
use Rattle.lane_sum.specs.Totals.{total_by}
use Rattle.block_store.specs.Blocks.{block_rows, block_values}
use Rattle.block_store.specs.Fingerprint.{row_bytes}
use Rattle.block_store.specs.InBox.{rows_in}
use Rattle.block_store.proofs.reading.fingerprint.total_in.Given as goal

abbrev pub invariant-loop-i : goal.invariant-loop-i
invariant-loop-i g l = record {
  added : l.total ≡ total_by row_bytes (rows_in l.area (block_values g.R.Row.value (take l.i l.listing.pieces.items)));
  each : l.steps ≤ l.fn.steps + length (block_rows (take l.i l.listing.pieces.items));
  none : l.run.exact ≡ true → l.i ≤ l.run.from.block → l.steps ≤ l.fn.steps;
  one : l.run.exact ≡ true → l.i ≤ l.run.to.block → l.steps ≤ l.fn.steps + 64;
  two : l.run.exact ≡ true → l.steps ≤ l.fn.steps + 128;
}
