use Rattle.lms_core.proofs.Given.{user_key_by}
use Rattle.lms_core.proofs.known_tree.KnownTree.user_key.Goals as goal

pub returns : goal.returns
returns c =
    let s = c.args.self.now in
    user_key_by s.height s.identifier s.seed c.public.result c.digest.result c.join_into.new.out c.in-Some.key c.public.ensures c.digest.ensures c.join_into.ensures c.in-Some.ensures.0
