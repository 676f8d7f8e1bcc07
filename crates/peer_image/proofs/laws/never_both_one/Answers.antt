use Rattle.peer_image.proofs.OneStops.{never_both}
use Rattle.peer_image.proofs.laws.never_both_one.Goals as goal

pub returns : goal.returns
returns c = never_both
