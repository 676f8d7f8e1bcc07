use Rattle.lms_core.proofs.Secrets.{public_by_steps}
use Rattle.lms_core.proofs.tree.Tree.public_of_root.Goals as goal

pub returns : goal.returns
returns c =
    let s = c.args.self.now in
    public_by_steps s.height s.identifier s.seed _ _ _ _ _ _ (rw c.tree_type.ensures.value at c.four_bytes.ensures) c.four_bytes-2.ensures c.join_into.ensures c.join_into-2.ensures c.requires c.join_into-3.ensures
