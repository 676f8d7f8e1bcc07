use Rattle.sha2.specs.Sha256.{add32}
use Rattle.sha_lanes.proofs.OfLanes.{HasLanes-two}
use Rattle.sha_lanes.proofs.compression.temp2.Goals as goal

pub returns : goal.returns
returns c = HasLanes-two add32 _ _ _ _ _ c.add.ensures c.big_sigma0.ensures c.maj.ensures
