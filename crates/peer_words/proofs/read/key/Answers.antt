use Rattle.peer_words.specs.Commands.{IsOf}
use Rattle.peer_words.specs.declared.verb.Verb.TheVariants as verbs
use Rattle.peer_words.proofs.Endings.{passed_on}
use Rattle.peer_words.proofs.Fields.{of_key}
use Rattle.peer_words.proofs.read.key.Goals as goal

pub returns-in_err-height-clause-reads : goal.returns-in_err-height-clause-reads
returns-in_err-height-clause-reads c =
    passed_on _ (IsOf verbs.Key c.args.options.now) c.in_err-height.field-0.0 c.from_residual.result c.from_residual.ensures.1 c.in_err-height.ensures.reads
    (λ none command is. of_key (λ _. ⊥) c.args.options.now command is (λ name height has. none height has.height_given))

pub returns-in_err-name-clause-reads : goal.returns-in_err-name-clause-reads
returns-in_err-name-clause-reads c =
    passed_on _ (IsOf verbs.Key c.args.options.now) c.in_err-name.field-0.0 c.from_residual-in_err-name.result c.from_residual-in_err-name.ensures.1 c.in_err-name.ensures.reads
    (λ none command is. of_key (λ _. ⊥) c.args.options.now command is (λ name height has. none (record { 0 = name }) has.name_given))
