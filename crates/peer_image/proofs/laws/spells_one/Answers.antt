use Rattle.peer_image.proofs.ReadBack.{reads_back}
use Rattle.peer_image.proofs.laws.spells_one.Goals as goal

pub returns : goal.returns
returns c = reads_back
