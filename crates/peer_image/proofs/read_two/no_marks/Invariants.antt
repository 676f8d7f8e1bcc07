use Rattle.std.proofs.Common.{[], ◌-◌, ◌≤◌, length}
use Rattle.peer_image.specs.ImageTwoParts.{AreMarked}
use Rattle.peer_image.proofs.read_two.no_marks.Given as goal

abbrev pub invariant-marks : goal.invariant-marks
invariant-marks l = record {
  unset : AreMarked l.marks.items (length l.marks.items) [];
  within : length l.marks.items ≤ length l.told;
}

abbrev pub decreases-marks : goal.decreases-marks
decreases-marks l = length l.told - length l.marks.items
