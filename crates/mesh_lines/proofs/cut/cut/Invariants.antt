use Rattle.std.proofs.Common.{take}
use Rattle.mesh_lines.specs.Cuts.{Lacks}
use Rattle.mesh_lines.proofs.cut.cut.Given as goal

abbrev pub invariant-loop-at : goal.invariant-loop-at
invariant-loop-at l = Lacks l.mark (take l.at l.bytes)
