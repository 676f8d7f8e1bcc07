use Rattle.std.proofs.Common.{length}
use Rattle.peer_rows.proofs.PartedImages.{HasReadSome}
use Rattle.peer_rows.proofs.parts.log_of_one.Given as goal

abbrev pub invariant-parts : goal.invariant-parts
invariant-parts g l = HasReadSome l.bytes (g.C.Checker.judged_in l.checker) l.taken l.left

abbrev pub decreases-parts : goal.decreases-parts
decreases-parts g l = length l.left
