use Rattle.std.proofs.Common.{All, take}
use Rattle.mesh_core.specs.Given.{IsAmong}
use Rattle.mesh_trials.proofs.checks.are_among.Given as goal

abbrev pub invariant-loop-event : goal.invariant-loop-event
invariant-loop-event l = All (IsAmong l.nodes) (take l.event-index l.events)
