use Rattle.std.proofs.Common.{sym, ◌∙◌}
use Rattle.std.specs.Cmp.{booleans_Decides}
use Rattle.peer_words.specs.Commands.{IsOf}
use Rattle.peer_words.specs.declared.verb.Verb.TheVariants as verbs
use Rattle.peer_words.proofs.Endings.{passed_on}
use Rattle.peer_words.proofs.Fields.{of_grant}
use Rattle.peer_words.proofs.OneCommand.{not_granted}
use Rattle.peer_words.proofs.Asking.{asks_on}
use Rattle.peer_words.proofs.read.grant.Goals as goal

pub returns-in_err-namespace-clause-reads : goal.returns-in_err-namespace-clause-reads
returns-in_err-namespace-clause-reads c =
    passed_on _ (IsOf verbs.Grant c.args.options.now) c.in_err-namespace.field-0.0 c.from_residual.result c.from_residual.ensures.1 c.in_err-namespace.ensures.reads
    (λ none command is. of_grant (λ _. ⊥) c.args.options.now command is (λ namespace mode user key has. none namespace has.namespace_given))

pub returns-in_err-mode-clause-reads : goal.returns-in_err-mode-clause-reads
returns-in_err-mode-clause-reads c =
    passed_on _ (IsOf verbs.Grant c.args.options.now) c.in_err-mode.field-0.0 c.from_residual-in_err-mode.result c.from_residual-in_err-mode.ensures.1 c.in_err-mode.ensures.reads
    (λ none command is. of_grant (λ _. ⊥) c.args.options.now command is (λ namespace mode user key has. none mode has.mode_given))

pub returns-in_err-user-clause-reads : goal.returns-in_err-user-clause-reads
returns-in_err-user-clause-reads c =
    passed_on _ (IsOf verbs.Grant c.args.options.now) c.in_err-user.field-0.0 c.from_residual-in_err-user.result c.from_residual-in_err-user.ensures.1 c.in_err-user.ensures.reads
    (λ none command is. of_grant (λ _. ⊥) c.args.options.now command is (λ namespace mode user key has. none user has.user_given))

pub returns-then-is_some-is_communal-clause-reads : goal.returns-then-is_some-is_communal-clause-reads
returns-then-is_some-is_communal-clause-reads c =
    let same = sym c.is_some.ensures ∙ ((booleans_Decides c.is_some.result c.is_communal.result).0 c.if-is_some-is_communal.true ∙ c.is_communal.ensures) in
    λ command is. of_grant (λ _. ⊥) c.args.options.now command is
    (not_granted c.args.options.now c.have_own_names.ensures c.in_ok-namespace.namespace c.in_ok-key.key c.in_ok-namespace.ensures.reads c.in_ok-key.ensures.reads same)

pub returns-in_err-key-clause-asked : goal.returns-in_err-key-clause-asked
returns-in_err-key-clause-asked c =
    asks_on c.in_err-key.field-0.0 c.from_residual-in_err-key.result c.from_residual-in_err-key.ensures.1 c.in_err-key.ensures.asked (λ asks. (
      (c.in_ok-namespace.namespace, c.in_ok-namespace.ensures.reads),
      (c.in_ok-mode.mode, c.in_ok-mode.ensures.reads),
      (c.in_ok-user.user, c.in_ok-user.ensures.reads),
      asks,
    ))
