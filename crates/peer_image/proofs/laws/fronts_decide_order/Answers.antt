use Rattle.peer_image.proofs.LastFronts.{fronts_decide_order}
use Rattle.peer_image.proofs.laws.fronts_decide_order.Goals as goal

pub returns : goal.returns
returns c = fronts_decide_order
