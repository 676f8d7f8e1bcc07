use Rattle.std.proofs.Common.{◌≡◌, ◌==◌, ◌+◌, ◌-◌, ◌≤◌, length, drop}
use Rattle.std.specs.List.{position_or_len}
use Rattle.peer_words.proofs.path.part_end.Given as goal

-- no `/` so far
abbrev pub invariant-loop-end : goal.invariant-loop-end
invariant-loop-end l = (l.end ≤ length l.word) × (l.end + position_or_len (λ b. b == 47) (drop l.end l.word) ≡ position_or_len (λ b. b == 47) l.word)

abbrev pub decreases-loop-end : goal.decreases-loop-end
decreases-loop-end l = length l.word - l.end
