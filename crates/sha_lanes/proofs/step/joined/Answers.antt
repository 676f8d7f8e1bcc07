use Rattle.std.proofs.Common.{slice_index}
use Rattle.sha2.specs.Sha256.{add32}
use Rattle.sha_lanes.proofs.OfLanes.{HasLanes-two, HasLanes-same, lane_lt}
use Rattle.sha_lanes.proofs.OfSteps.{joined_shifts}
use Rattle.sha_lanes.proofs.step.joined.Goals as goal

pub returns : goal.returns
returns c =
    let x = c.args.x in
    let y = c.args.y in
    HasLanes-same _ _ _ (λ l h. joined_shifts (slice_index x l) (slice_index y l) (lane_lt x l c.fits-x h) (lane_lt y l c.fits-y h))
    (HasLanes-two add32 _ _ _ _ _ c.add.ensures c.shift_left.ensures c.shift_right.ensures)
