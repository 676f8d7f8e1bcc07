use Rattle.mesh_rules.proofs.Steps.{exact_makes_up_none, exact_leaves_live}
use Rattle.mesh_rules.proofs.laws.exact_meetings.Goals as goal

pub returns-clause-only : goal.returns-clause-only
returns-clause-only g c = λ m a b x exact. exact_makes_up_none m a b x exact

pub returns-clause-live : goal.returns-clause-live
returns-clause-live g c = λ m a b x exact. exact_leaves_live m a b x exact
