use Rattle.peer_image.proofs.InOrder.{order_decides}
use Rattle.peer_image.proofs.laws.order_decides.Goals as goal

pub returns : goal.returns
returns c = order_decides
