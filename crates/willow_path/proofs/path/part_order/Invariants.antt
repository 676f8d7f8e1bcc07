use Rattle.std.proofs.Common.{◌≡◌, drop}
use Rattle.willow_path.specs.Path.{part_cmp}
use Rattle.willow_path.proofs.path.part_order.Given as goal

abbrev pub invariant-loop-i : goal.invariant-loop-i
invariant-loop-i l = part_cmp (drop l.i l.part) (drop l.i l.other) ≡ part_cmp l.part l.other
