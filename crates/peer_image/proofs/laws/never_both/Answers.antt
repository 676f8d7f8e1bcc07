use Rattle.peer_image.proofs.Stops.{never_both}
use Rattle.peer_image.proofs.laws.never_both.Goals as goal

pub returns : goal.returns
returns c = never_both
