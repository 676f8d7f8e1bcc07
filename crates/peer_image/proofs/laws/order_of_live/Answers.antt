use Rattle.peer_image.proofs.InOrder.{order_of_live}
use Rattle.peer_image.proofs.laws.order_of_live.Goals as goal

pub returns : goal.returns
returns c = order_of_live
