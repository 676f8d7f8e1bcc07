use Rattle.std.proofs.Common.{◌≡◌, ◌+◌, List, map}
use Rattle.willow_entry.specs.Row.{RowValue}
use Rattle.peer_image.specs.Fronts.{StandBehind, seen}
use Rattle.peer_image.proofs.KeptFronts.{HasPassed}
use Rattle.peer_image.proofs.order.pruned_along.Given as goal

abbrev pub invariant-loop-row : goal.invariant-loop-row
invariant-loop-row g l = record {
  counted : l.at ≡ l.fn.before + l.row-index;
  passed : (earlier : List RowValue) → StandBehind earlier (map (seen g.R.Row.value) l.fn.fronts.items) l.fn.before (map g.R.Row.value l.rows) → HasPassed earlier (map g.R.Row.value l.rows) l.row-index (map (seen g.R.Row.value) l.fronts.items);
}
