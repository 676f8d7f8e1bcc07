use Rattle.std.proofs.Common.{◌≡◌, length}
use Rattle.mesh_trials.proofs.runs.compared_in.Given as goal

abbrev pub invariant-loop-event : goal.invariant-loop-event
invariant-loop-event l = length l.mesh ≡ l.nodes
