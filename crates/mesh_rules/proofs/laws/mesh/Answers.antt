use Rattle.std.proofs.Common.{sym, ◌∙◌}
use Rattle.mesh_rules.proofs.Runs.{holds_reached, holds_live, holds_area}
use Rattle.mesh_rules.proofs.laws.mesh.Goals as goal

pub returns-clause-reached : goal.returns-clause-reached
returns-clause-reached g c = λ m events run i. holds_reached m events run i

pub returns-clause-just : goal.returns-clause-just
returns-clause-just g c = λ m events run i reached same. holds_live m events run i reached same

pub returns-clause-areas : goal.returns-clause-areas
returns-clause-areas g c = λ m events run i x whole reach. holds_area m events run i x whole reach

pub returns-clause-agree : goal.returns-clause-agree
returns-clause-agree g c = λ m events run i j x whole one other. holds_area m events run i x whole one ∙ sym (holds_area m events run j x whole other)
