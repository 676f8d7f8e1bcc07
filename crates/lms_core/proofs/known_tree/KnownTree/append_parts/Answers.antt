use Rattle.lms_core.proofs.Secrets.{leaf_by_index}
use Rattle.lms_core.proofs.known_tree.KnownTree.append_parts.Goals as goal

pub append_path-requires-clause-leaf_is : goal.append_path-requires-clause-leaf_is
append_path-requires-clause-leaf_is c =
    let s = c.args.self.now in
    leaf_by_index s.height s.identifier s.seed c.args.index c.leaves.result c.in_ok-key.key c.leaf-leaf.result (rw c.tree-tree.ensures at c.leaves.ensures.value) (rw c.tree-tree.ensures at c.in_ok-key.ensures.key) (rw c.tree-tree.ensures at c.leaf-leaf.ensures)
