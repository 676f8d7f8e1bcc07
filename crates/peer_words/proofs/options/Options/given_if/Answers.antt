use Rattle.peer_words.specs.Options.{MayBeSet}
use Rattle.peer_words.proofs.Endings.{passed_on}
use Rattle.peer_words.proofs.GivenValues.{may_give_nothing}
use Rattle.peer_words.proofs.options.Options.given_if.Goals as goal

pub returns-in_err-of_word-in-Some-clause-reads : goal.returns-in_err-of_word-in-Some-clause-reads
returns-in_err-of_word-in-Some-clause-reads g c =
    passed_on (g.T.Word.spells c.in-Some.word.now) (MayBeSet g.T.Word.spells c.args.self.now c.args.name.now) c.in_err-of_word-in-Some.field-0.0 c.from_residual.result c.from_residual.ensures.1 c.in_err-of_word-in-Some.ensures.reads
    (may_give_nothing g.T.Word.spells c.args.self.now c.args.name.now c.in-Some.word.now c.in-Some.ensures.0 c.in-Some.ensures.1)
