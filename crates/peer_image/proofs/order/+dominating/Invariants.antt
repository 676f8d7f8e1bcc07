use Rattle.std.proofs.Common.{length}
use Rattle.peer_image.proofs.order.+dominating.Given as goal

abbrev pub decreases-dominating : goal.decreases-dominating
decreases-dominating g l = length l.fronts.now
