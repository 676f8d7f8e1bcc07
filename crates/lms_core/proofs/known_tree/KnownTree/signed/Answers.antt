use Rattle.std.proofs.Common.{◌++◌, ◌∙◌, refl, ap}
use Rattle.lms_core.specs.declared.tree.Tree.{Tree}
use Rattle.lms_core.specs.Signer.{public_key, signature_of}
use Rattle.lms_core.proofs.Secrets.{signed_by_steps}
use Rattle.std.proofs.lemmas.Result.{IfOk-weaker}
use Rattle.lms_core.proofs.known_tree.KnownTree.signed.Goals as goal

pub returns-clause-signature : goal.returns-clause-signature
returns-clause-signature c =
    let s = c.tree-tree.result in
    let public = rw (← c.tree-tree.ensures) at c.in_ok-public.ensures.public in
    let values = c.deref.ensures.value ∙ (rw (← c.tree-tree.ensures) at c.in_ok-public.ensures.signed) ∙ rw c.new-values.ensures.items refl in
    let path = c.deref-2.ensures.value ∙ (rw (← c.tree-tree.ensures) at c.in_ok-public.ensures.siblings) ∙ rw c.new-path.ensures.items refl in
    let e = signed_by_steps s.height s.identifier s.seed c.args.index c.args.message.now _ _ _ _ _ _ _ _ _ _ public refl refl refl c.randomizer-randomizer.ensures c.head_of.ensures values refl path refl in
    let same = ap (λ (t : Tree). public_key t.height t.identifier t.seed ++ signature_of t.height t.identifier t.seed c.args.index c.args.message.now) c.tree-tree.ensures in
    IfOk-weaker c.joined.result _ _ (λ v h. h ∙ e ∙ same) c.joined.ensures
