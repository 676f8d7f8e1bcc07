use Rattle.peer_words.specs.Commands.{IsOf}
use Rattle.peer_words.specs.declared.verb.Verb.TheVariants as verbs
use Rattle.peer_words.proofs.Endings.{passed_on}
use Rattle.peer_words.proofs.Fields.{of_watch}
use Rattle.peer_words.proofs.OneValue.{given_end}
use Rattle.peer_words.proofs.read.watch.Goals as goal

pub returns-in_err-image-clause-reads : goal.returns-in_err-image-clause-reads
returns-in_err-image-clause-reads c =
    passed_on _ (IsOf verbs.Watch c.args.options.now) c.in_err-image.field-0.0 c.from_residual.result c.from_residual.ensures.1 c.in_err-image.ensures.reads
    (λ none command is. of_watch (λ _. ⊥) c.args.options.now command is (λ image area has. none (record { 0 = image }) has.image_given))

pub returns-then-eq-clause-reads : goal.returns-then-eq-clause-reads
returns-then-eq-clause-reads c =
    λ command is. of_watch (λ _. ⊥) c.args.options.now command is
    (λ image area has. has.some_time (given_end c.args.options.now c.have_own_names.ensures area.until c.in_ok-area.area.until has.area_given.end c.in_ok-area.ensures.reads.end c.if-eq.ensures))
