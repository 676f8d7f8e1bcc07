use Rattle.peer_image.proofs.LastFronts.{fronts_go_on}
use Rattle.peer_image.proofs.laws.fronts_go_on.Goals as goal

pub returns : goal.returns
returns c = fronts_go_on
