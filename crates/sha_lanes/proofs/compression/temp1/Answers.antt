use Rattle.sha2.specs.Sha256.{add32}
use Rattle.sha_lanes.proofs.OfLanes.{HasLanes-two, HasLanes-left, HasLanes-right, HasLanes-replicate}
use Rattle.sha_lanes.proofs.compression.temp1.Goals as goal

pub returns : goal.returns
returns c =
    let start = HasLanes-right add32 _ _ _ _ c.add-start.ensures c.big_sigma1.ensures in
    let chosen = HasLanes-two add32 _ _ _ _ _ c.add-chosen.ensures start c.ch.ensures in
    let keyed = HasLanes-two add32 _ _ _ _ _ c.add-keyed.ensures chosen (HasLanes-replicate c.args.constant) in
    HasLanes-left add32 _ _ _ _ c.add.ensures keyed
