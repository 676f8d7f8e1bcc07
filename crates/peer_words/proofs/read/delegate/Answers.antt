use Rattle.peer_words.specs.Commands.{IsOf}
use Rattle.peer_words.specs.declared.verb.Verb.TheVariants as verbs
use Rattle.peer_words.proofs.Endings.{passed_on}
use Rattle.peer_words.proofs.Fields.{of_delegate}
use Rattle.peer_words.proofs.read.delegate.Goals as goal

pub returns-in_err-to-clause-reads : goal.returns-in_err-to-clause-reads
returns-in_err-to-clause-reads c =
    passed_on _ (IsOf verbs.Delegate c.args.options.now) c.in_err-to.field-0.0 c.from_residual.result c.from_residual.ensures.1 c.in_err-to.ensures.reads
    (λ none command is. of_delegate (λ _. ⊥) c.args.options.now command is (λ key to area has. none to has.to_given))

pub returns-in_err-key-clause-reads : goal.returns-in_err-key-clause-reads
returns-in_err-key-clause-reads c =
    passed_on _ (IsOf verbs.Delegate c.args.options.now) c.in_err-key.field-0.0 c.from_residual-in_err-key.result c.from_residual-in_err-key.ensures.1 c.in_err-key.ensures.reads
    (λ none command is. of_delegate (λ _. ⊥) c.args.options.now command is (λ key to area has. none key has.key_given))
