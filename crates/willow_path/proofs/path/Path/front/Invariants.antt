use Rattle.std.proofs.Common.{◌≡◌, take}
use Rattle.willow_path.proofs.path.Path.front.Given as goal

abbrev pub invariant-loop-i : goal.invariant-loop-i
invariant-loop-i l = l.path ≡ take l.i l.self
