use Rattle.std.proofs.Common.{inl, inr}
use Rattle.peer_words.specs.Commands.{IsOf}
use Rattle.peer_words.specs.declared.verb.Verb.TheVariants as verbs
use Rattle.peer_words.proofs.Endings.{passed_on}
use Rattle.peer_words.proofs.Fields.{of_write}
use Rattle.peer_words.proofs.Asking.{asks_on}
use Rattle.peer_words.proofs.read.write.Goals as goal

pub returns-in_err-time-clause-reads : goal.returns-in_err-time-clause-reads
returns-in_err-time-clause-reads c =
    passed_on _ (IsOf verbs.Write c.args.options.now) c.in_err-time.field-0.0 c.from_residual.result c.from_residual.ensures.1 c.in_err-time.ensures.reads
    (λ none command is. of_write (λ _. ⊥) c.args.options.now command is (λ key path time length digest subspace has. none time has.time_given))

pub returns-in_err-length-clause-reads : goal.returns-in_err-length-clause-reads
returns-in_err-length-clause-reads c =
    passed_on _ (IsOf verbs.Write c.args.options.now) c.in_err-length.field-0.0 c.from_residual-in_err-length.result c.from_residual-in_err-length.ensures.1 c.in_err-length.ensures.reads
    (λ none command is. of_write (λ _. ⊥) c.args.options.now command is (λ key path time length digest subspace has. none length has.length_given))

pub returns-in_err-digest-clause-reads : goal.returns-in_err-digest-clause-reads
returns-in_err-digest-clause-reads c =
    passed_on _ (IsOf verbs.Write c.args.options.now) c.in_err-digest.field-0.0 c.from_residual-in_err-digest.result c.from_residual-in_err-digest.ensures.1 c.in_err-digest.ensures.reads
    (λ none command is. of_write (λ _. ⊥) c.args.options.now command is (λ key path time length digest subspace has. none digest has.digest_given))

pub returns-in_err-key-clause-reads : goal.returns-in_err-key-clause-reads
returns-in_err-key-clause-reads c =
    passed_on _ (IsOf verbs.Write c.args.options.now) c.in_err-key.field-0.0 c.from_residual-in_err-key.result c.from_residual-in_err-key.ensures.1 c.in_err-key.ensures.reads
    (λ none command is. of_write (λ _. ⊥) c.args.options.now command is (λ key path time length digest subspace has. none key has.key_given))

pub returns-in_err-path-clause-reads : goal.returns-in_err-path-clause-reads
returns-in_err-path-clause-reads c =
    passed_on _ (IsOf verbs.Write c.args.options.now) c.in_err-path.field-0.0 c.from_residual-in_err-path.result c.from_residual-in_err-path.ensures.1 c.in_err-path.ensures.reads
    (λ none command is. of_write (λ _. ⊥) c.args.options.now command is (λ key path time length digest subspace has. none path has.path_given))

pub returns-in_err-key-clause-asked : goal.returns-in_err-key-clause-asked
returns-in_err-key-clause-asked c =
    asks_on c.in_err-key.field-0.0 c.from_residual-in_err-key.result c.from_residual-in_err-key.ensures.1 c.in_err-key.ensures.asked (λ asks. (
      (c.in_ok-time.time, c.in_ok-time.ensures.reads),
      (c.in_ok-length.length, c.in_ok-length.ensures.reads),
      (c.in_ok-digest.digest, c.in_ok-digest.ensures.reads),
      (c.in_ok-subspace.subspace, c.in_ok-subspace.ensures.reads),
      inl asks,
    ))

pub returns-in_err-path-clause-asked : goal.returns-in_err-path-clause-asked
returns-in_err-path-clause-asked c =
    asks_on c.in_err-path.field-0.0 c.from_residual-in_err-path.result c.from_residual-in_err-path.ensures.1 c.in_err-path.ensures.asked (λ asks. (
      (c.in_ok-time.time, c.in_ok-time.ensures.reads),
      (c.in_ok-length.length, c.in_ok-length.ensures.reads),
      (c.in_ok-digest.digest, c.in_ok-digest.ensures.reads),
      (c.in_ok-subspace.subspace, c.in_ok-subspace.ensures.reads),
      inr ((c.in_ok-key.key, c.in_ok-key.ensures.reads), asks),
    ))
