use Rattle.mesh_rules.proofs.Carrying.{offered_reach}
use Rattle.mesh_rules.proofs.Listing.{reaching_listed}
use Rattle.mesh_rules.proofs.laws.reaching.Goals as goal

pub returns-clause-offered : goal.returns-clause-offered
returns-clause-offered g c = λ has events r. offered_reach has events r

pub returns-clause-listed : goal.returns-clause-listed
returns-clause-listed g c = λ has events i. reaching_listed has events i
