use Rattle.std.proofs.Common.{◌≡◌, ◌≤◌, length, sym, ap, ◌∙◌, arith, Some}
use Rattle.std.specs.String.{string_bytes}
use Rattle.std.proofs.lemmas.Bool.Decides.{nat_tests}
use Rattle.peer_words.specs.Verbs.{verb_at}
use Rattle.peer_words.proofs.WholeWords.{words_read}
use Rattle.peer_words.proofs.read.read_words.Goals as goal

pub returns-clause-reads : goal.returns-clause-reads
returns-clause-reads c =
    let some : 1 ≤ length c.args.words.now = grind (arith, nat_tests) in
    let named : verb_at (string_bytes c.index-words-0.result) ≡ Some c.in-Some.verb = ap verb_at (sym c.deref.ensures) ∙ sym c.in-Some.ensures in
    words_read c.args.words.now c.index-words-0.result c.split_at.result.1.now c.in-Some.verb c.in-Some-read.options c.command_of.result some c.index-words-0.is c.split_at.ensures.back named c.in-Some-read.ensures c.command_of.ensures.reads
