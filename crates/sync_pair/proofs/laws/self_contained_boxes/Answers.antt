use Rattle.sync_pair.proofs.SelfContained.{dominating_inside, live_inside}
use Rattle.sync_pair.proofs.laws.self_contained_boxes.Goals as goal

pub returns-clause-inside : goal.returns-clause-inside
returns-clause-inside c = dominating_inside

pub returns-clause-live : goal.returns-clause-live
returns-clause-live c = live_inside
