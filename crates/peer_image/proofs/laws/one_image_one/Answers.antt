use Rattle.peer_image.proofs.OneStops.{one_image}
use Rattle.peer_image.proofs.laws.one_image_one.Goals as goal

pub returns : goal.returns
returns c = one_image
