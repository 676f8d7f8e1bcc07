use Rattle.std.proofs.Common.{◌-◌, length}
use Rattle.peer_image.proofs.TwoReading.{ToldSo}
use Rattle.peer_image.proofs.known.put_known.Given as goal

abbrev pub invariant-told : goal.invariant-told
invariant-told l = ToldSo l.bytes l.count l.told.items l.left

abbrev pub decreases-told : goal.decreases-told
decreases-told l = l.count - length l.told.items
