use Rattle.peer_words.specs.Commands.{IsOf}
use Rattle.peer_words.specs.declared.verb.Verb.TheVariants as verbs
use Rattle.peer_words.proofs.Endings.{passed_on}
use Rattle.peer_words.proofs.Fields.{of_generate}
use Rattle.peer_words.proofs.read.generate.Goals as goal

pub returns-in_err-rows-clause-reads : goal.returns-in_err-rows-clause-reads
returns-in_err-rows-clause-reads c =
    passed_on _ (IsOf verbs.Gen c.args.options.now) c.in_err-rows.field-0.0 c.from_residual.result c.from_residual.ensures.1 c.in_err-rows.ensures.reads
    (λ none command is. of_generate (λ _. ⊥) c.args.options.now command is (λ rows has. none rows has))
