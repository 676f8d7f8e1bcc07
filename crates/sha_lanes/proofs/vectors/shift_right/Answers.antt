use Rattle.std.proofs.Common.{◌/◌, ◌^◌}
use Rattle.sha_lanes.proofs.OfLanes.{HasLanes-splat}
use Rattle.sha_lanes.proofs.vectors.shift_right.Goals as goal

pub returns : goal.returns
returns c = HasLanes-splat (λ x k. x / 2 ^ k) c.args.x c.args.count c.fits-x.0
