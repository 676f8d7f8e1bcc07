use Rattle.std.proofs.Common.{bit_xor, bit_and, slice_index, w32}
use Rattle.sha_lanes.proofs.ChMaj.{ch_short}
use Rattle.sha_lanes.proofs.OfLanes.{HasLanes-right, HasLanes-same, lane_lt}
use Rattle.sha_lanes.proofs.functions.ch.Goals as goal

pub returns : goal.returns
returns c =
    let x = c.args.x in
    let y = c.args.y in
    let z = c.args.z in
    let inner = HasLanes-right bit_and _ _ _ _ c.and.ensures c.xor.ensures in
    HasLanes-same _ _ _ (λ l h. ch_short w32 (slice_index x l) (slice_index y l) (slice_index z l) (lane_lt x l c.fits-x h) (lane_lt y l c.fits-y h) (lane_lt z l c.fits-z h)) (HasLanes-right bit_xor _ _ _ _ c.xor-2.ensures inner)
