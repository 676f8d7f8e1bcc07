use Rattle.std.proofs.Common.{◌≡◌, map, take}
use Rattle.peer_image.specs.Fronts.{numbered, seen}
use Rattle.peer_image.proofs.order.numbered.Given as goal

abbrev pub invariant-loop-row : goal.invariant-loop-row
invariant-loop-row g l = record {
  counted : l.at ≡ l.row-index;
  made : map (seen g.R.Row.value) l.fronts.items ≡ numbered 1 (take l.row-index (map g.R.Row.value l.rows));
}
