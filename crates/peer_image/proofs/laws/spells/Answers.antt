use Rattle.peer_image.proofs.Stops.{reads_back}
use Rattle.peer_image.proofs.laws.spells.Goals as goal

pub returns : goal.returns
returns c = reads_back
