use Rattle.std.proofs.Common.{◌≡◌, ◌≤◌, length, map, take}
use Rattle.block_store.specs.InBox.{rows_in}
use Rattle.block_store.proofs.reading.boxes.count_in_rows.Given as goal

abbrev pub invariant-loop-at : goal.invariant-loop-at
invariant-loop-at g l = record {
  counted : l.count ≡ length (rows_in l.area (take l.at (map (λ a. g.R.Row.value a.value) l.rows)));
  fits : l.count ≤ l.at;
}
