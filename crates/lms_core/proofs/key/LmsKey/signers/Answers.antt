use Rattle.std.proofs.Common.{◌+◌, ◌∙◌, ap}
use Rattle.lms_core.specs.Key.{Key}
use Rattle.lms_core.proofs.Known.{use_of_tree}
use Rattle.lms_core.proofs.Uses.{uses_none, uses_more}
use Rattle.lms_core.proofs.key.LmsKey.signers.Goals as goal

pub loop-offset-init : goal.loop-offset-init
loop-offset-init c = c.new-signers.ensures.items ∙ uses_none c.args.self.now c.args.self.now.next

pub loop-offset-preserved : goal.loop-offset-preserved
loop-offset-preserved c =
    let k = c.args.self.now in
    let n = c.loop-offset.offset in
    let signer = use_of_tree c.args.tree.now _ k n _ c.new-signer.result c.requires.tree c.in_ok-share.ensures (ap (λ (key : Key). key.next + n) c.self.view_is) c.new-signer.ensures in
    uses_more k k.next n c.loop-offset.signers.items _ c.new-signer.result c.loop-offset.invariant signer c.in_ok-push.ensures.items
