use Rattle.std.proofs.Common.{◌≡◌, ◌*◌, ◌/◌, ◌%◌, ◌^◌, ◌-◌, slice_index, bit_or, arith}
use Rattle.sha_lanes.proofs.OfLanes.{HasLanes-two, HasLanes-same}
use Rattle.sha_lanes.proofs.vectors.rotate_right.Goals as goal

pub returns : goal.returns
returns c =
    let k = c.args.count in
    let e : k ≡ k % 32 = omega arith in
    let r : 32 - k ≡ (32 - k % 32) % 32 = omega arith in
    HasLanes-same _ _ _ (λ l h i. bit_or (slice_index c.args.x l / 2 ^ e i) (slice_index c.args.x l * 2 ^ r i % 2 ^ 32))
    (HasLanes-two bit_or _ _ _ _ _ c.or.ensures c.shift_right.ensures c.shift_left.ensures)
