use Rattle.std.proofs.Common.{◌≡◌, ◌+◌, length, map, take}
use Rattle.block_store.specs.InBox.{is_in}
use Rattle.block_store.specs.Positions.{positions}
use Rattle.block_store.proofs.reading.boxes.nth_in_rows.Given as goal

abbrev pub invariant-loop-at : goal.invariant-loop-at
invariant-loop-at g l = record {
  passed : length (positions (is_in l.area) (take l.at (map (λ a. g.R.Row.value a.value) l.rows))) + l.left ≡ l.n;
}
