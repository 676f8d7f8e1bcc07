use Rattle.std.proofs.Common.{sym, subst}
use Rattle.mesh_core.specs.Generated.{HoldGenerated}
use Rattle.mesh_core.proofs.Exact.{none_hold}
use Rattle.mesh_core.proofs.nodes.MeshNodes.new.Goals as goal

pub invariant_of-result : goal.invariant_of-result
invariant_of-result c = subst HoldGenerated (sym c.in_ok-stores.ensures.empty) none_hold
