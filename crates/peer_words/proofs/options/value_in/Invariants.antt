use Rattle.std.proofs.Common.{ℕ, List, length}
use Rattle.std.specs.Prelude.{◌↔◌}
use Rattle.peer_words.specs.Options.{IsSet}
use Rattle.peer_words.specs.Pairs.{settings_of}
use Rattle.peer_words.specs.Words.{texts}
use Rattle.peer_words.proofs.options.value_in.Given as goal

-- all of the words set the name to what is left sets it to
abbrev pub invariant-loop-left : goal.invariant-loop-left
invariant-loop-left l = (word : List ℕ) → IsSet (settings_of (texts l.left)) l.name word ↔ IsSet (settings_of (texts l.words)) l.name word

abbrev pub decreases-loop-left : goal.decreases-loop-left
decreases-loop-left l = length l.left
