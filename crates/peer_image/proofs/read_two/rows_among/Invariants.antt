use Rattle.std.proofs.Common.{◌≡◌, ◌≤◌, ◌-◌, length}
use Rattle.peer_image.specs.ImageTwoParts.{RowsSo}
use Rattle.peer_image.proofs.read_two.rows_among.Given as goal

abbrev pub invariant-rows : goal.invariant-rows
invariant-rows l = record {
  so : RowsSo l.told l.bytes l.fn.marks l.rows.items l.marks l.left;
  long : length l.marks ≡ length l.told;
  within : length l.rows.items ≤ l.most;
}

abbrev pub decreases-rows : goal.decreases-rows
decreases-rows l = l.most - length l.rows.items
