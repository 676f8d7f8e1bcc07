use Rattle.peer_words.specs.Commands.{IsOf}
use Rattle.peer_words.specs.declared.verb.Verb.TheVariants as verbs
use Rattle.peer_words.proofs.Endings.{passed_on}
use Rattle.peer_words.proofs.Fields.{of_join}
use Rattle.peer_words.proofs.read.join.Goals as goal

pub returns-in_err-namespace-clause-reads : goal.returns-in_err-namespace-clause-reads
returns-in_err-namespace-clause-reads c =
    passed_on _ (IsOf verbs.Join c.args.options.now) c.in_err-namespace.field-0.0 c.from_residual.result c.from_residual.ensures.1 c.in_err-namespace.ensures.reads
    (λ none command is. of_join (λ _. ⊥) c.args.options.now command is (λ namespace has. none namespace has))
