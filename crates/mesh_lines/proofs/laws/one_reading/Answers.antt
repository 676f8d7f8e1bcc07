use Rattle.mesh_lines.proofs.Texts.{one_mesh, never_both, one_place}
use Rattle.mesh_lines.proofs.laws.one_reading.Goals as goal

pub returns-clause-one : goal.returns-clause-one
returns-clause-one c = one_mesh

pub returns-clause-right : goal.returns-clause-right
returns-clause-right c = never_both

pub returns-clause-place : goal.returns-clause-place
returns-clause-place c = one_place
