use Rattle.std.proofs.Common.{◌-◌, ◌≤◌, length}
use Rattle.cap_codec.proofs.Frames.{FramesSo}
use Rattle.peer_image.proofs.parts.rows_in_front.Given as goal

abbrev pub invariant-frames : goal.invariant-frames
invariant-frames l = record {
  so : FramesSo l.bytes l.rows.items l.left;
  within : length l.rows.items ≤ l.most;
}

abbrev pub decreases-frames : goal.decreases-frames
decreases-frames l = l.most - length l.rows.items
