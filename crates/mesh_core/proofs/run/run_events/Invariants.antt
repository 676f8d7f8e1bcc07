use Rattle.mesh_core.proofs.Runs.{IsRun}
use Rattle.mesh_core.proofs.run.run_events.Given as goal

abbrev pub invariant-loop-event : goal.invariant-loop-event
invariant-loop-event l = IsRun l.version l.nodes l.events l.event-index l.mesh
