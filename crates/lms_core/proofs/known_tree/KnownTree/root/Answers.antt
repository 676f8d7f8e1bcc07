use Rattle.lms_core.proofs.Secrets.{root_by_steps}
use Rattle.lms_core.proofs.known_tree.KnownTree.root.Goals as goal

pub returns : goal.returns
returns c =
    let s = c.args.self.now in
    root_by_steps s.height s.identifier s.seed _ _ (rw c.self.view_is at c.levels.ensures.value) c.value.ensures
