use Rattle.std.proofs.Common.{◌≡◌, ◌+◌, drop}
use Rattle.range_split.specs.PartOf.{part_of}
use Rattle.range_split.proofs.load.part_of.Given as goal

abbrev pub invariant-loop-i : goal.invariant-loop-i
invariant-loop-i g l = part_of l.points (g.R.Row.value l.row) ≡ l.i + part_of (drop l.i l.points) (g.R.Row.value l.row)
