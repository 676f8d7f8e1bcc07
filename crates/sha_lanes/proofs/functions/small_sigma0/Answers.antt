use Rattle.std.proofs.Common.{ℕ, ◌/◌, ◌^◌, slice_index, bit_xor, ap, arith, w32}
use Rattle.std.specs.Int.{rotate_right}
use Rattle.sha_lanes.proofs.Rotations.{rotated_two}
use Rattle.sha_lanes.proofs.OfLanes.{HasLanes-right, HasLanes-two, HasLanes-one, HasLanes-same, lane_lt}
use Rattle.sha_lanes.proofs.functions.small_sigma0.Goals as goal

pub returns : goal.returns
returns c =
    let x = c.args.x in
    let once = HasLanes-right bit_xor _ _ _ _ c.xor.ensures c.rotate_right.ensures in
    let twice = HasLanes-one (λ n. rotate_right w32 n 7) _ _ _ c.rotate_right-2.ensures once in
    HasLanes-same _ _ _ (λ l h. ap (λ (y : ℕ). bit_xor y (slice_index x l / 2 ^ 3)) (rotated_two 32 (slice_index x l) 7 11 (omega arith) (lane_lt x l c.fits-x h)))
    (HasLanes-two bit_xor _ _ _ _ _ c.xor-2.ensures twice c.shift_right.ensures)
