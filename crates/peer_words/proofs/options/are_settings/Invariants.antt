use Rattle.std.proofs.Common.{length}
use Rattle.std.specs.Prelude.{◌↔◌}
use Rattle.peer_words.specs.Options.{AreSettings}
use Rattle.peer_words.specs.Pairs.{settings_of}
use Rattle.peer_words.specs.Verbs.{names_of}
use Rattle.peer_words.specs.Words.{texts}
use Rattle.peer_words.proofs.options.are_settings.Given as goal

-- all of the words are settings exactly where what is left is
abbrev pub invariant-loop-left : goal.invariant-loop-left
invariant-loop-left l = AreSettings (names_of l.verb) (settings_of (texts l.left)) ↔ AreSettings (names_of l.verb) (settings_of (texts l.words))

abbrev pub decreases-loop-left : goal.decreases-loop-left
decreases-loop-left l = length l.left
