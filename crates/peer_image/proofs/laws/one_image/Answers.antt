use Rattle.peer_image.proofs.Stops.{one_image}
use Rattle.peer_image.proofs.laws.one_image.Goals as goal

pub returns : goal.returns
returns c = one_image
