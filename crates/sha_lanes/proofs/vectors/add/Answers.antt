use Rattle.sha2.specs.Sha256.{add32}
use Rattle.sha_lanes.proofs.OfLanes.{HasLanes-zip2}
use Rattle.sha_lanes.proofs.vectors.add.Goals as goal

pub returns : goal.returns
returns c = HasLanes-zip2 add32 c.args.x c.args.y c.fits-x.0 c.fits-y.0
