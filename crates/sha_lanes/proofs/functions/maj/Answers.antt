use Rattle.std.proofs.Common.{bit_xor, bit_and, slice_index}
use Rattle.sha_lanes.proofs.ChMaj.{maj_short}
use Rattle.sha_lanes.proofs.OfLanes.{HasLanes-two, HasLanes-right, HasLanes-same}
use Rattle.sha_lanes.proofs.functions.maj.Goals as goal

pub returns : goal.returns
returns c =
    let x = c.args.x in
    let y = c.args.y in
    let z = c.args.z in
    let inner = HasLanes-two bit_and _ _ _ _ _ c.and.ensures c.xor.ensures c.xor-2.ensures in
    HasLanes-same _ _ _ (λ l h. maj_short (slice_index x l) (slice_index y l) (slice_index z l)) (HasLanes-right bit_xor _ _ _ _ c.xor-3.ensures inner)
