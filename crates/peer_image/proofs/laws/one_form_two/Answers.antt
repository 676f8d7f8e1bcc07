use Rattle.peer_image.proofs.TwoForm.{image_two_form}
use Rattle.peer_image.proofs.laws.one_form_two.Goals as goal

pub returns : goal.returns
returns c = image_two_form
