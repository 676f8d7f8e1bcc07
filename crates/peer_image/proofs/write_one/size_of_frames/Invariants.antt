use Rattle.std.proofs.Common.{length}
use Rattle.peer_image.proofs.write_one.size_of_frames.Given as goal

abbrev pub decreases-loop-row : goal.decreases-loop-row
decreases-loop-row g l = length l.left
