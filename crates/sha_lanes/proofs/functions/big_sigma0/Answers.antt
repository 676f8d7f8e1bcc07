use Rattle.std.proofs.Common.{slice_index, bit_xor, arith, w32}
use Rattle.std.specs.Int.{rotate_right}
use Rattle.sha_lanes.proofs.Rotations.{rotated_three}
use Rattle.sha_lanes.proofs.OfLanes.{HasLanes-right, HasLanes-one, HasLanes-same, lane_lt}
use Rattle.sha_lanes.proofs.functions.big_sigma0.Goals as goal

pub returns : goal.returns
returns c =
    let x = c.args.x in
    let once = HasLanes-right bit_xor _ _ _ _ c.xor.ensures c.rotate_right.ensures in
    let twice = HasLanes-right bit_xor _ _ _ _ c.xor-2.ensures (HasLanes-one (λ n. rotate_right w32 n 11) _ _ _ c.rotate_right-2.ensures once) in
    HasLanes-same _ _ _ (λ l h. rotated_three 32 (slice_index x l) 2 11 9 (omega arith) (lane_lt x l c.fits-x h))
    (HasLanes-one (λ n. rotate_right w32 n 2) _ _ _ c.rotate_right-3.ensures twice)
