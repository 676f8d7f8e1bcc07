use Rattle.std.proofs.Common.{◌≡◌, Err, ap, sym, ◌∙◌, arith}
use Rattle.std.specs.Prelude.{is_ok}
use Rattle.sync_msg.specs.Items.{item_value}
use Rattle.sync_core.specs.Steps.{count_one, heard, refused}
use Rattle.sync_core.proofs.Steady.{byte_counts, byte_few, few_read, few_sent, heard_nothing, heard_ok, heard_refused, steady_heard}
use Rattle.sync_core.proofs.side.SyncCore.give_item.Goals as goal

pub overflow_add-items : goal.overflow_add-items
overflow_add-items g c = omega (arith, few_sent _ _ _ c.self.invariant.0, few_read _ _ _ c.self.invariant.0)

pub overflow_add-items-2 : goal.overflow_add-items-2
overflow_add-items-2 g c = omega (arith, few_sent _ _ _ c.self.invariant.0, few_read _ _ _ c.self.invariant.0, byte_few c.is_counted.result, c.from-counted.ensures)

pub overflow_add-self : goal.overflow_add-self
overflow_add-self g c = omega (arith, few_read _ _ _ c.self.invariant.0, byte_few c.is_counted.result, c.from-counted.ensures)

pub invariant_of-self : goal.invariant_of-self
invariant_of-self g c =
    let value = item_value g.Q.Row.value c.args.item in
    let count : c.from-counted.result ≡ count_one value = byte_counts g.Q.Row.value c.args.item c.is_counted.result c.from-counted.result c.from-counted.ensures c.is_counted.ensures in
    (steady_heard _ _ _ c.self.invariant.0 value c.hear-outcome.new.work c.hear-outcome.result c.hear-outcome.ensures.does c.from-counted.result count c.requires.prints c.hear-outcome.ensures.ready (sym c.within.ensures ∙ c.in-Ok.is), c.hear-outcome.ensures.order)

pub returns-in-Ok-clause-hears : goal.returns-in-Ok-clause-hears
returns-in-Ok-clause-hears g c =
    let value = item_value g.Q.Row.value c.args.item in
    let count : c.from-counted.result ≡ count_one value = byte_counts g.Q.Row.value c.args.item c.is_counted.result c.from-counted.result c.from-counted.ensures c.is_counted.ensures in
    ap (λ p. heard p value) (sym c.self.view_is)
    ∙ heard_ok _ _ _ c.self.invariant.0 value c.hear-outcome.new.work c.hear-outcome.result c.hear-outcome.ensures.does c.from-counted.result count (sym c.within.ensures ∙ c.in-Ok.is)

pub returns-in-Err-Refused-clause-hears : goal.returns-in-Err-Refused-clause-hears
returns-in-Err-Refused-clause-hears g c =
    let value = item_value g.Q.Row.value c.args.item in
    let count : c.from-counted.result ≡ count_one value = byte_counts g.Q.Row.value c.args.item c.is_counted.result c.from-counted.result c.from-counted.ensures c.is_counted.ensures in (
      ap (λ p. heard p value) (sym c.self.view_is)
          ∙ heard_refused _ _ _ c.self.invariant.0 value c.hear-outcome.new.work c.hear-outcome.result c.hear-outcome.ensures.does c.from-counted.result count c.in-Err-Refused.cause (sym c.within.ensures ∙ c.in-Err-Refused.is ∙ ap (λ e. Err e) c.in-Err-Refused.field-0-is),
      ap (λ p. refused p c.in-Err-Refused.cause) c.self.view_is,
    )

pub returns-clause-hears : goal.returns-clause-hears
returns-clause-hears g c =
    let value = item_value g.Q.Row.value c.args.item in
    let count : c.from-counted.result ≡ count_one value = byte_counts g.Q.Row.value c.args.item c.is_counted.result c.from-counted.result c.from-counted.ensures c.is_counted.ensures in
    let nothing = heard_nothing _ _ _ c.self.invariant.0 value c.hear-outcome.new.work c.hear-outcome.result c.hear-outcome.ensures.does c.from-counted.result count (sym c.within.ensures ∙ c.in-Err-NoMemory.is ∙ ap (λ e. Err e) c.in-Err-NoMemory.field-0-is) in
    (nothing.0 ∙ c.self.view_is, ap (λ p. is_ok (heard p value)) (sym c.self.view_is) ∙ nothing.1)
