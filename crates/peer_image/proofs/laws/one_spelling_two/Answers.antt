use Rattle.peer_image.proofs.TwoForm.{one_spelling_two}
use Rattle.peer_image.proofs.laws.one_spelling_two.Goals as goal

pub returns : goal.returns
returns c = one_spelling_two
