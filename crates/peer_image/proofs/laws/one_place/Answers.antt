use Rattle.peer_image.proofs.Stops.{one_place}
use Rattle.peer_image.proofs.laws.one_place.Goals as goal

pub returns : goal.returns
returns c = one_place
