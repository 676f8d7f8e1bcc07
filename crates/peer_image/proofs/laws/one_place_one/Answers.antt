use Rattle.peer_image.proofs.OneStops.{one_place}
use Rattle.peer_image.proofs.laws.one_place_one.Goals as goal

pub returns : goal.returns
returns c = one_place
