use Rattle.peer_image.proofs.TwoStops.{never_both_two}
use Rattle.peer_image.proofs.laws.never_both_two.Goals as goal

pub returns : goal.returns
returns c = never_both_two
