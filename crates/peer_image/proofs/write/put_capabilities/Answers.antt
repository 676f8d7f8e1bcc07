use Rattle.std.proofs.Common.{◌≤◌, List, [], ℕ, length}
use Rattle.willow_entry.specs.declared.frame.TheConstants.{MAX_FRAME}
use Rattle.peer_image.proofs.TwoPlaces.{now_at}
use Rattle.peer_image.proofs.write.put_capabilities.Goals as goal

pub put_capability-requires : goal.put_capability-requires
put_capability-requires c =
    let P : List ℕ → Type 0 = λ t. length t ≤ MAX_FRAME in
    now_at P c.args.told.now c.loop-capability.capability-index (record { ref_ptr = (0, 0); now = [] }) c.requires c.loop-capability-test.true
