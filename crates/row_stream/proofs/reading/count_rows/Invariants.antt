use Rattle.std.proofs.Common.{◌≡◌, ◌+◌, ◌<◌, ◌≤◌, length}
use Rattle.row_stream.specs.Memory.{PieceAsks}
use Rattle.row_stream.proofs.reading.count_rows.Given as goal

abbrev pub invariant-frames : goal.invariant-frames
invariant-frames l = record { few : l.count + length l.left ≤ length l.bytes; none : l.count ≡ 0 → l.left ≡ l.bytes; some : 0 < l.count → PieceAsks l.bytes }

abbrev pub decreases-frames : goal.decreases-frames
decreases-frames l = length l.left
