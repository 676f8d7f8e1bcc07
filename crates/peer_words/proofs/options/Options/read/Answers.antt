use Rattle.std.proofs.Common.{arith}
use Rattle.peer_words.specs.Verbs.{names_of}
use Rattle.peer_words.proofs.Pairs.{settings_read, no_pairs, no_settings}
use Rattle.peer_words.proofs.options.Options.read.Goals as goal

pub returns-then-words-ne0 : goal.returns-then-words-ne0
returns-then-words-ne0 c = no_pairs (names_of c.args.verb) c.args.words.now (λ even. omega arith)

pub returns-then-not-are_settings : goal.returns-then-not-are_settings
returns-then-not-are_settings c = no_settings (names_of c.args.verb) c.args.words.now c.if-not-are_settings.ensures

pub returns : goal.returns
returns c = settings_read (names_of c.args.verb) c.args.words.now (omega arith) c.if-not-are_settings.ensures
