use Rattle.mesh_answers.proofs.ByEvents.{by_events, last_rows}
use Rattle.mesh_answers.proofs.laws.by_events.Goals as goal

pub returns-clause-each : goal.returns-clause-each
returns-clause-each c = by_events

pub returns-clause-last : goal.returns-clause-last
returns-clause-last c = last_rows
