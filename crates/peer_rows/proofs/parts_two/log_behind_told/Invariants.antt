use Rattle.std.proofs.Common.{length}
use Rattle.peer_rows.proofs.PartedImages.{HasReadSomeTwo}
use Rattle.peer_rows.proofs.parts_two.log_behind_told.Given as goal

abbrev pub invariant-parts : goal.invariant-parts
invariant-parts g l = HasReadSomeTwo l.bytes (g.C.Checker.judged_in l.checker) l.fn.head l.told l.marks.items l.taken l.left

abbrev pub decreases-parts : goal.decreases-parts
decreases-parts g l = length l.left
