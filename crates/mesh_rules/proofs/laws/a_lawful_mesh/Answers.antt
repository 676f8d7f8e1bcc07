use Rattle.mesh_rules.proofs.Smalls.{exact_run}
use Rattle.mesh_rules.proofs.laws.a_lawful_mesh.Goals as goal

pub returns : goal.returns
returns c = record { exact = exact_run }
