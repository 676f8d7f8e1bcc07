use Rattle.peer_image.proofs.TwoAlike.{spell_the_same}
use Rattle.peer_image.proofs.laws.spell_the_same.Goals as goal

pub returns : goal.returns
returns c = spell_the_same
