use Rattle.std.proofs.Common.{length}
use Rattle.spelling.proofs.input.Input.+exactly.Given as goal

abbrev pub decreases-exactly : goal.decreases-exactly
decreases-exactly l = length l.due.now
