use Rattle.std.proofs.Common.{ℕ, ◌-◌, ◌≤◌, length}
use Rattle.peer_real.proofs.disk.read_from.Given as goal

-- no more bytes came than there is room for
abbrev pub invariant-loop-count : goal.invariant-loop-count
invariant-loop-count l = l.count ≤ length l.buf

abbrev pub decreases-loop-count : goal.decreases-loop-count
decreases-loop-count l = length l.buf - l.count
