use Rattle.peer_image.proofs.OneStops.{image_form}
use Rattle.peer_image.proofs.laws.one_form.Goals as goal

pub returns : goal.returns
returns c = image_form
