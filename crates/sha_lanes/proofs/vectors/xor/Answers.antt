use Rattle.std.proofs.Common.{bit_xor}
use Rattle.sha_lanes.proofs.OfLanes.{HasLanes-zip2}
use Rattle.sha_lanes.proofs.vectors.xor.Goals as goal

pub returns : goal.returns
returns c = HasLanes-zip2 bit_xor c.args.x c.args.y c.fits-x.0 c.fits-y.0
