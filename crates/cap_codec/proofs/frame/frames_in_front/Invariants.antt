use Rattle.std.proofs.Common.{length}
use Rattle.cap_codec.proofs.Frames.{FramesSo}
use Rattle.cap_codec.proofs.frame.frames_in_front.Given as goal

abbrev pub invariant-frames : goal.invariant-frames
invariant-frames l = FramesSo l.bytes l.rows.items l.left

abbrev pub decreases-frames : goal.decreases-frames
decreases-frames l = length l.left
