use Rattle.std.proofs.Common.{◌≡◌, ◌++◌, map, take, Some}
use Rattle.peer_image.specs.Fronts.{at_prefixes_of}
use Rattle.peer_image.proofs.order.copy_fronts.Given as goal

abbrev pub invariant-loop-row : goal.invariant-loop-row
invariant-loop-row g l =
    map g.R.Row.value l.kept.items ≡ map g.R.Row.value l.fn.kept.items ++ at_prefixes_of (Some (g.R.Row.value l.last)) (take l.row-index (map g.R.Row.value l.rows))
