use Rattle.std.proofs.Common.{List, length, sym, subst}
use Rattle.cap_codec.specs.Rows.{RawValue}
use Rattle.mesh_core.specs.Generated.{HoldGenerated}
use Rattle.mesh_core.specs.Given.{event_of, IsAmong}
use Rattle.mesh_core.specs.Held.{nodes_of}
use Rattle.mesh_core.proofs.Exact.{after_hold}
use Rattle.mesh_core.proofs.Runs.{offers_generated}
use Rattle.mesh_core.proofs.nodes.MeshNodes.happen.Goals as goal

pub invariant_of-result : goal.invariant_of-result
invariant_of-result c =
    let old = c.self.inside.stores.items in
    let among = subst (λ (rows : List (List RawValue)). IsAmong (length rows) c.args.event.now) (sym c.self.view_is) c.requires.among in
    subst HoldGenerated (sym c.in_ok-happen_to.ensures.rows) (after_hold c.args.version (nodes_of old) (event_of c.args.event.now) c.self.invariant (offers_generated (length old) c.args.event.now among))
