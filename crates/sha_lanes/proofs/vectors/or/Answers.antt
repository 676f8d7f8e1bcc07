use Rattle.std.proofs.Common.{bit_or}
use Rattle.sha_lanes.proofs.OfLanes.{HasLanes-zip2}
use Rattle.sha_lanes.proofs.vectors.or.Goals as goal

pub returns : goal.returns
returns c = HasLanes-zip2 bit_or c.args.x c.args.y c.fits-x.0 c.fits-y.0
