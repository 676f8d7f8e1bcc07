use Rattle.std.proofs.Common.{◌≡◌, ◌+◌, ◌≤◌, map, take}
use Rattle.lane_sum.specs.Totals.{total_by}
use Rattle.block_store.specs.Fingerprint.{row_bytes}
use Rattle.block_store.specs.InBox.{rows_in}
use Rattle.block_store.proofs.reading.fingerprint.total_in_rows.Given as goal

abbrev pub invariant-loop-at : goal.invariant-loop-at
invariant-loop-at g l = record {
  added : l.total ≡ total_by row_bytes (rows_in l.area (take l.at (map (λ a. g.R.Row.value a.value) l.rows)));
  few : l.steps ≤ l.fn.steps + l.at;
}
