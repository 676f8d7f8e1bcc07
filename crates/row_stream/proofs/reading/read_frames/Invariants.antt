use Rattle.std.proofs.Common.{length}
use Rattle.row_stream.proofs.Passing.{Passed}
use Rattle.row_stream.proofs.reading.read_frames.Given as goal

abbrev pub invariant-frames : goal.invariant-frames
invariant-frames g l = Passed g.F.RowForm.IsRow g.F.R.Row.value l.at l.bytes l.fn.rows.items l.rows.items l.here l.left

abbrev pub decreases-frames : goal.decreases-frames
decreases-frames g l = length l.left
