use Rattle.std.proofs.Common.{codes}
use Rattle.peer_words.specs.Commands.{IsOf}
use Rattle.peer_words.specs.declared.verb.Verb.TheVariants as verbs
use Rattle.peer_words.proofs.Endings.{passed_on}
use Rattle.peer_words.proofs.Fields.{of_sync}
use Rattle.peer_words.proofs.Asking.{asks_on, name_asks}
use Rattle.peer_words.proofs.read.sync.Goals as goal

pub returns-in_err-newest-clause-reads : goal.returns-in_err-newest-clause-reads
returns-in_err-newest-clause-reads c =
    passed_on _ (IsOf verbs.Sync c.args.options.now) c.in_err-newest.field-0.0 c.from_residual.result c.from_residual.ensures.1 c.in_err-newest.ensures.reads
    (λ none command is. of_sync (λ _. ⊥) c.args.options.now command is (λ image cap key to area newest bytes follow has. none newest has.interest_given.newest_given))

pub returns-in_err-bytes-clause-reads : goal.returns-in_err-bytes-clause-reads
returns-in_err-bytes-clause-reads c =
    passed_on _ (IsOf verbs.Sync c.args.options.now) c.in_err-bytes.field-0.0 c.from_residual-in_err-bytes.result c.from_residual-in_err-bytes.ensures.1 c.in_err-bytes.ensures.reads
    (λ none command is. of_sync (λ _. ⊥) c.args.options.now command is (λ image cap key to area newest bytes follow has. none bytes has.interest_given.bytes_given))

pub returns-in_err-follow-clause-reads : goal.returns-in_err-follow-clause-reads
returns-in_err-follow-clause-reads c =
    passed_on _ (IsOf verbs.Sync c.args.options.now) c.in_err-follow.field-0.0 c.from_residual-in_err-follow.result c.from_residual-in_err-follow.ensures.1 c.in_err-follow.ensures.reads
    (λ none command is. of_sync (λ _. ⊥) c.args.options.now command is (λ image cap key to area newest bytes follow has. none follow has.follow_given))

pub returns-in_err-image-clause-reads : goal.returns-in_err-image-clause-reads
returns-in_err-image-clause-reads c =
    passed_on _ (IsOf verbs.Sync c.args.options.now) c.in_err-image.field-0.0 c.from_residual-in_err-image.result c.from_residual-in_err-image.ensures.1 c.in_err-image.ensures.reads
    (λ none command is. of_sync (λ _. ⊥) c.args.options.now command is (λ image cap key to area newest bytes follow has. none (record { 0 = image }) has.image_given))

pub returns-in_err-cap-clause-reads : goal.returns-in_err-cap-clause-reads
returns-in_err-cap-clause-reads c =
    passed_on _ (IsOf verbs.Sync c.args.options.now) c.in_err-cap.field-0.0 c.from_residual-in_err-cap.result c.from_residual-in_err-cap.ensures.1 c.in_err-cap.ensures.reads
    (λ none command is. of_sync (λ _. ⊥) c.args.options.now command is (λ image cap key to area newest bytes follow has. none (record { 0 = cap }) has.cap_given))

pub returns-in_err-key-clause-reads : goal.returns-in_err-key-clause-reads
returns-in_err-key-clause-reads c =
    passed_on _ (IsOf verbs.Sync c.args.options.now) c.in_err-key.field-0.0 c.from_residual-in_err-key.result c.from_residual-in_err-key.ensures.1 c.in_err-key.ensures.reads
    (λ none command is. of_sync (λ _. ⊥) c.args.options.now command is (λ image cap key to area newest bytes follow has. none key has.key_given))

pub returns-in_err-to-clause-reads : goal.returns-in_err-to-clause-reads
returns-in_err-to-clause-reads c =
    passed_on _ (IsOf verbs.Sync c.args.options.now) c.in_err-to.field-0.0 c.from_residual-in_err-to.result c.from_residual-in_err-to.ensures.1 c.in_err-to.ensures.reads
    (λ none command is. of_sync (λ _. ⊥) c.args.options.now command is (λ image cap key to area newest bytes follow has. none (record { 0 = to }) has.to_given))

pub returns-in_err-area-clause-reads : goal.returns-in_err-area-clause-reads
returns-in_err-area-clause-reads c =
    passed_on _ (IsOf verbs.Sync c.args.options.now) c.in_err-area.field-0.0 c.from_residual-in_err-area.result c.from_residual-in_err-area.ensures.1 c.in_err-area.ensures.reads
    (λ none command is. of_sync (λ _. ⊥) c.args.options.now command is (λ image cap key to area newest bytes follow has. none area has.area_given))

pub returns-in_err-image-clause-asked : goal.returns-in_err-image-clause-asked
returns-in_err-image-clause-asked c = asks_on c.in_err-image.field-0.0 c.from_residual-in_err-image.result c.from_residual-in_err-image.ensures.1 c.in_err-image.ensures.asked (λ asks. (((c.in_ok-newest.newest, c.in_ok-newest.ensures.reads), (c.in_ok-bytes.bytes, c.in_ok-bytes.ensures.reads)), (c.in_ok-follow.follow, c.in_ok-follow.ensures.reads), asks))

pub returns-in_err-cap-clause-asked : goal.returns-in_err-cap-clause-asked
returns-in_err-cap-clause-asked c = λ _. (((c.in_ok-newest.newest, c.in_ok-newest.ensures.reads), (c.in_ok-bytes.bytes, c.in_ok-bytes.ensures.reads)), (c.in_ok-follow.follow, c.in_ok-follow.ensures.reads), name_asks c.args.options.now (codes "--image") c.in_ok-image.field-0 c.in_ok-image.ensures.reads)

pub returns-in_err-key-clause-asked : goal.returns-in_err-key-clause-asked
returns-in_err-key-clause-asked c = λ _. (((c.in_ok-newest.newest, c.in_ok-newest.ensures.reads), (c.in_ok-bytes.bytes, c.in_ok-bytes.ensures.reads)), (c.in_ok-follow.follow, c.in_ok-follow.ensures.reads), name_asks c.args.options.now (codes "--image") c.in_ok-image.field-0 c.in_ok-image.ensures.reads)

pub returns-in_err-to-clause-asked : goal.returns-in_err-to-clause-asked
returns-in_err-to-clause-asked c = λ _. (((c.in_ok-newest.newest, c.in_ok-newest.ensures.reads), (c.in_ok-bytes.bytes, c.in_ok-bytes.ensures.reads)), (c.in_ok-follow.follow, c.in_ok-follow.ensures.reads), name_asks c.args.options.now (codes "--image") c.in_ok-image.field-0 c.in_ok-image.ensures.reads)

pub returns-in_err-area-clause-asked : goal.returns-in_err-area-clause-asked
returns-in_err-area-clause-asked c = λ _. (((c.in_ok-newest.newest, c.in_ok-newest.ensures.reads), (c.in_ok-bytes.bytes, c.in_ok-bytes.ensures.reads)), (c.in_ok-follow.follow, c.in_ok-follow.ensures.reads), name_asks c.args.options.now (codes "--image") c.in_ok-image.field-0 c.in_ok-image.ensures.reads)
