use Rattle.mesh_rules.proofs.Runs.{reaches_only, stay_live}
use Rattle.mesh_rules.proofs.laws.any_meetings.Goals as goal

pub returns-clause-only : goal.returns-clause-only
returns-clause-only g c = λ m events sound. reaches_only m events sound

pub returns-clause-live : goal.returns-clause-live
returns-clause-live g c = λ m events leaves. stay_live m events leaves
