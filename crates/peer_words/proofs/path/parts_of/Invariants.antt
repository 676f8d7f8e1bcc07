use Rattle.std.proofs.Common.{◌≡◌, ◌⊎◌, length}
use Rattle.peer_words.specs.Memory.{PathWordAsks}
use Rattle.peer_words.proofs.PathWords.{IsFront}
use Rattle.peer_words.proofs.path.parts_of.Given as goal

-- the path so far, and what is left, are the whole word; and nothing was read yet, or the word asks for memory
abbrev pub invariant-loop-left : goal.invariant-loop-left
invariant-loop-left l = record { front : IsFront l.word l.path l.left; asks : (l.left ≡ l.word) ⊎ PathWordAsks l.word }

abbrev pub decreases-loop-left : goal.decreases-loop-left
decreases-loop-left l = length l.left
