use Rattle.std.proofs.Common.{◌≤◌, length}
use Rattle.mesh_lines.specs.Text.{HasFront}
use Rattle.mesh_lines.proofs.text.read_mesh.Given as goal

abbrev pub invariant-loop-left : goal.invariant-loop-left
invariant-loop-left l = record { front : HasFront l.bytes l.nodes l.lines.items l.left; few : length l.left ≤ length l.bytes }

abbrev pub decreases-loop-left : goal.decreases-loop-left
decreases-loop-left l = length l.left
