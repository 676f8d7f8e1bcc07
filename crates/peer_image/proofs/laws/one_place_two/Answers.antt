use Rattle.peer_image.proofs.TwoStops.{one_place_two}
use Rattle.peer_image.proofs.laws.one_place_two.Goals as goal

pub returns : goal.returns
returns c = one_place_two
