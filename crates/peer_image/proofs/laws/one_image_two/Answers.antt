use Rattle.peer_image.proofs.TwoStops.{one_image_two}
use Rattle.peer_image.proofs.laws.one_image_two.Goals as goal

pub returns : goal.returns
returns c = one_image_two
