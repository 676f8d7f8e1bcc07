use Rattle.std.proofs.Common.{◌≡◌, ◌+◌, drop, map}
use Rattle.peer_image.specs.Order.{fall_after}
use Rattle.peer_image.proofs.order.fall_after.Given as goal

abbrev pub invariant-loop-row : goal.invariant-loop-row
invariant-loop-row g l = record {
  counted : l.at ≡ l.row-index + 1;
  left : fall_after (l.row-index + 2) (g.R.Row.value l.last) (drop l.row-index (map g.R.Row.value l.others)) ≡ fall_after 2 (g.R.Row.value l.first) (map g.R.Row.value l.others);
}
