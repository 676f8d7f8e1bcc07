use Rattle.std.proofs.Common.{◌≡◌, ◌++◌, List, length, None, ap, ◌∙◌, subst, arith}
use Rattle.cap_codec.specs.Rows.{RawValue}
use Rattle.peer_image.specs.Fronts.{last_fronts}
use Rattle.peer_image.specs.ImageReading.{raw_rows}
use Rattle.peer_image.specs.Order.{order_refusal, IsInnerRising}
use Rattle.peer_rows.proofs.AskingParts.{on_err}
use Rattle.peer_rows.proofs.PartedImages.{few_fronts, fronts_in_order, fronts_on, in_order_rise}
use Rattle.peer_rows.proofs.parts.go_on.Goals as goal

pub are_in_order-requires-clause-count : goal.are_in_order-requires-clause-count
are_in_order-requires-clause-count c = omega (arith, ap length c.deref.ensures.value, few_fronts c.requires.0 c.args.fronts.now.items c.requires.1, c.requires.2)

pub are_in_order-requires-clause-in_order : goal.are_in_order-requires-clause-in_order
are_in_order-requires-clause-in_order c = ap (λ (l : List RawValue). order_refusal (raw_rows l)) c.deref.ensures.value ∙ fronts_in_order c.requires.0 c.args.fronts.now.items c.requires.1

pub returns-clause-goes : goal.returns-clause-goes
returns-clause-goes c = λ seen h yes.
    let fronts = c.args.fronts.now.items in
    let rows = c.args.rows.now in
    let order : order_refusal (raw_rows fronts ++ raw_rows rows) ≡ None =
    subst (λ (l : List RawValue). order_refusal (raw_rows l ++ raw_rows rows) ≡ None) c.deref.ensures.value (c.in_ok-are_in_order.ensures.order.0 c.if-not-branch.false) in
    fronts_on seen fronts h rows c.in_ok-fronts.field-0.items order (c.in_ok-fronts.ensures ∙ ap (λ (l : List RawValue). last_fronts (raw_rows l ++ raw_rows rows)) c.deref-2.ensures.value)

pub returns-in_err-fronts-clause-rising : goal.returns-in_err-fronts-clause-rising
returns-in_err-fronts-clause-rising c =
    let rows = raw_rows c.args.rows.now in
    let rise = in_order_rise (raw_rows c.deref.result.now ++ rows) (c.in_ok-are_in_order.ensures.order.0 c.if-not-branch.false) in
    on_err c.from_residual-in_err-fronts.result (subst (λ (l : List RawValue). IsInnerRising (raw_rows l ++ rows)) c.deref.ensures.value rise)
