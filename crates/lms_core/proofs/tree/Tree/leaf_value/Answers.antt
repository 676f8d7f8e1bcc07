use Rattle.lms_core.proofs.Secrets.{leaf_by_index}
use Rattle.lms_core.proofs.tree.Tree.leaf_value.Goals as goal

pub returns : goal.returns
returns c =
    let t = c.args.self.now in
    leaf_by_index t.height t.identifier t.seed c.args.index c.leaves.result c.leaf_key-key.result c.leaf.result c.leaves.ensures.value c.leaf_key-key.ensures c.leaf.ensures
