use Rattle.std.proofs.Common.{sym, subst, arith}
use Rattle.mesh_core.proofs.Stores.{AreEmpty, one_more_empty}
use Rattle.mesh_core.proofs.nodes.empty_stores.Goals as goal

pub loop-node-preserved : goal.loop-node-preserved
loop-node-preserved c = record {
  as_many = omega (arith, c.loop-node.invariant.as_many, c.in_ok-push.ensures.len, c.push.new.self.ok.0, c.loop-node.stores.ok.0);
  empty = subst AreEmpty (sym c.in_ok-push.ensures.items) (one_more_empty c.loop-node.stores.items c.new.result c.loop-node.invariant.empty c.new.ensures.empty);
}
