use Rattle.peer_image.proofs.TwoAlike.{read_back_alike}
use Rattle.peer_image.proofs.laws.read_back_alike.Goals as goal

pub returns : goal.returns
returns c = read_back_alike
