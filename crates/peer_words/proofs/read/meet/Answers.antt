use Rattle.std.proofs.Common.{codes}
use Rattle.peer_words.specs.Commands.{IsOf}
use Rattle.peer_words.specs.declared.verb.Verb.TheVariants as verbs
use Rattle.peer_words.proofs.Endings.{passed_on}
use Rattle.peer_words.proofs.Fields.{of_meet}
use Rattle.peer_words.proofs.Asking.{asks_on, name_asks}
use Rattle.peer_words.proofs.read.meet.Goals as goal

pub returns-in_err-newest-clause-reads : goal.returns-in_err-newest-clause-reads
returns-in_err-newest-clause-reads c =
    passed_on _ (IsOf verbs.Meet c.args.options.now) c.in_err-newest.field-0.0 c.from_residual.result c.from_residual.ensures.1 c.in_err-newest.ensures.reads
    (λ none command is. of_meet (λ _. ⊥) c.args.options.now command is (λ left right left_cap right_cap left_out right_out area newest bytes has. none newest has.interest_given.newest_given))

pub returns-in_err-bytes-clause-reads : goal.returns-in_err-bytes-clause-reads
returns-in_err-bytes-clause-reads c =
    passed_on _ (IsOf verbs.Meet c.args.options.now) c.in_err-bytes.field-0.0 c.from_residual-in_err-bytes.result c.from_residual-in_err-bytes.ensures.1 c.in_err-bytes.ensures.reads
    (λ none command is. of_meet (λ _. ⊥) c.args.options.now command is (λ left right left_cap right_cap left_out right_out area newest bytes has. none bytes has.interest_given.bytes_given))

pub returns-in_err-left-clause-reads : goal.returns-in_err-left-clause-reads
returns-in_err-left-clause-reads c =
    passed_on _ (IsOf verbs.Meet c.args.options.now) c.in_err-left.field-0.0 c.from_residual-in_err-left.result c.from_residual-in_err-left.ensures.1 c.in_err-left.ensures.reads
    (λ none command is. of_meet (λ _. ⊥) c.args.options.now command is (λ left right left_cap right_cap left_out right_out area newest bytes has. none (record { 0 = left }) has.left_given))

pub returns-in_err-right-clause-reads : goal.returns-in_err-right-clause-reads
returns-in_err-right-clause-reads c =
    passed_on _ (IsOf verbs.Meet c.args.options.now) c.in_err-right.field-0.0 c.from_residual-in_err-right.result c.from_residual-in_err-right.ensures.1 c.in_err-right.ensures.reads
    (λ none command is. of_meet (λ _. ⊥) c.args.options.now command is (λ left right left_cap right_cap left_out right_out area newest bytes has. none (record { 0 = right }) has.right_given))

pub returns-in_err-left_cap-clause-reads : goal.returns-in_err-left_cap-clause-reads
returns-in_err-left_cap-clause-reads c =
    passed_on _ (IsOf verbs.Meet c.args.options.now) c.in_err-left_cap.field-0.0 c.from_residual-in_err-left_cap.result c.from_residual-in_err-left_cap.ensures.1 c.in_err-left_cap.ensures.reads
    (λ none command is. of_meet (λ _. ⊥) c.args.options.now command is (λ left right left_cap right_cap left_out right_out area newest bytes has. none (record { 0 = left_cap }) has.left_cap_given))

pub returns-in_err-right_cap-clause-reads : goal.returns-in_err-right_cap-clause-reads
returns-in_err-right_cap-clause-reads c =
    passed_on _ (IsOf verbs.Meet c.args.options.now) c.in_err-right_cap.field-0.0 c.from_residual-in_err-right_cap.result c.from_residual-in_err-right_cap.ensures.1 c.in_err-right_cap.ensures.reads
    (λ none command is. of_meet (λ _. ⊥) c.args.options.now command is (λ left right left_cap right_cap left_out right_out area newest bytes has. none (record { 0 = right_cap }) has.right_cap_given))

pub returns-in_err-left_out-clause-reads : goal.returns-in_err-left_out-clause-reads
returns-in_err-left_out-clause-reads c =
    passed_on _ (IsOf verbs.Meet c.args.options.now) c.in_err-left_out.field-0.0 c.from_residual-in_err-left_out.result c.from_residual-in_err-left_out.ensures.1 c.in_err-left_out.ensures.reads
    (λ none command is. of_meet (λ _. ⊥) c.args.options.now command is (λ left right left_cap right_cap left_out right_out area newest bytes has. none (record { 0 = left_out }) has.left_out_given))

pub returns-in_err-right_out-clause-reads : goal.returns-in_err-right_out-clause-reads
returns-in_err-right_out-clause-reads c =
    passed_on _ (IsOf verbs.Meet c.args.options.now) c.in_err-right_out.field-0.0 c.from_residual-in_err-right_out.result c.from_residual-in_err-right_out.ensures.1 c.in_err-right_out.ensures.reads
    (λ none command is. of_meet (λ _. ⊥) c.args.options.now command is (λ left right left_cap right_cap left_out right_out area newest bytes has. none (record { 0 = right_out }) has.right_out_given))

pub returns-in_err-area-clause-reads : goal.returns-in_err-area-clause-reads
returns-in_err-area-clause-reads c =
    passed_on _ (IsOf verbs.Meet c.args.options.now) c.in_err-area.field-0.0 c.from_residual-in_err-area.result c.from_residual-in_err-area.ensures.1 c.in_err-area.ensures.reads
    (λ none command is. of_meet (λ _. ⊥) c.args.options.now command is (λ left right left_cap right_cap left_out right_out area newest bytes has. none area has.area_given))

pub returns-in_err-left-clause-asked : goal.returns-in_err-left-clause-asked
returns-in_err-left-clause-asked c = asks_on c.in_err-left.field-0.0 c.from_residual-in_err-left.result c.from_residual-in_err-left.ensures.1 c.in_err-left.ensures.asked (λ asks. (((c.in_ok-newest.newest, c.in_ok-newest.ensures.reads), (c.in_ok-bytes.bytes, c.in_ok-bytes.ensures.reads)), asks))

pub returns-in_err-right-clause-asked : goal.returns-in_err-right-clause-asked
returns-in_err-right-clause-asked c = λ _. (((c.in_ok-newest.newest, c.in_ok-newest.ensures.reads), (c.in_ok-bytes.bytes, c.in_ok-bytes.ensures.reads)), name_asks c.args.options.now (codes "--left") c.in_ok-left.field-0 c.in_ok-left.ensures.reads)

pub returns-in_err-left_cap-clause-asked : goal.returns-in_err-left_cap-clause-asked
returns-in_err-left_cap-clause-asked c = λ _. (((c.in_ok-newest.newest, c.in_ok-newest.ensures.reads), (c.in_ok-bytes.bytes, c.in_ok-bytes.ensures.reads)), name_asks c.args.options.now (codes "--left") c.in_ok-left.field-0 c.in_ok-left.ensures.reads)

pub returns-in_err-right_cap-clause-asked : goal.returns-in_err-right_cap-clause-asked
returns-in_err-right_cap-clause-asked c = λ _. (((c.in_ok-newest.newest, c.in_ok-newest.ensures.reads), (c.in_ok-bytes.bytes, c.in_ok-bytes.ensures.reads)), name_asks c.args.options.now (codes "--left") c.in_ok-left.field-0 c.in_ok-left.ensures.reads)

pub returns-in_err-left_out-clause-asked : goal.returns-in_err-left_out-clause-asked
returns-in_err-left_out-clause-asked c = λ _. (((c.in_ok-newest.newest, c.in_ok-newest.ensures.reads), (c.in_ok-bytes.bytes, c.in_ok-bytes.ensures.reads)), name_asks c.args.options.now (codes "--left") c.in_ok-left.field-0 c.in_ok-left.ensures.reads)

pub returns-in_err-right_out-clause-asked : goal.returns-in_err-right_out-clause-asked
returns-in_err-right_out-clause-asked c = λ _. (((c.in_ok-newest.newest, c.in_ok-newest.ensures.reads), (c.in_ok-bytes.bytes, c.in_ok-bytes.ensures.reads)), name_asks c.args.options.now (codes "--left") c.in_ok-left.field-0 c.in_ok-left.ensures.reads)

pub returns-in_err-area-clause-asked : goal.returns-in_err-area-clause-asked
returns-in_err-area-clause-asked c = λ _. (((c.in_ok-newest.newest, c.in_ok-newest.ensures.reads), (c.in_ok-bytes.bytes, c.in_ok-bytes.ensures.reads)), name_asks c.args.options.now (codes "--left") c.in_ok-left.field-0 c.in_ok-left.ensures.reads)
