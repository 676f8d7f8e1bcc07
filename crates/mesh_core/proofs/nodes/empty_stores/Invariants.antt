use Rattle.std.proofs.Common.{◌≡◌, length}
use Rattle.mesh_core.proofs.Stores.{AreEmpty}
use Rattle.mesh_core.proofs.nodes.empty_stores.Given as goal

abbrev pub invariant-loop-node : goal.invariant-loop-node
invariant-loop-node l = record {
  as_many : length l.stores.items ≡ l._node;
  empty : AreEmpty l.stores.items;
}
