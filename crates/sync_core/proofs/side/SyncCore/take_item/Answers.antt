use Rattle.std.proofs.Common.{◌≡◌, ◌+◌, cond, map, option_map, ap, sym, ◌∙◌, subst, arith}
use Rattle.sync_msg.specs.Items.{is_counted}
use Rattle.sync_core.specs.Steps.{said}
use Rattle.sync_core.specs.Held.{doing_of, item_at}
use Rattle.sync_core.proofs.Spoken.{says_item, says_place}
use Rattle.sync_core.proofs.Steady.{byte_cond, byte_few, few_sent, steady_said}
use Rattle.sync_core.proofs.side.SyncCore.take_item.Goals as goal

pub overflow_add-self : goal.overflow_add-self
overflow_add-self g c = omega (arith, few_sent _ _ _ c.self.invariant.0, byte_few c.is_counted.result, c.from.ensures)

pub invariant_of-self : goal.invariant_of-self
invariant_of-self g c =
    let rows = map g.R.Row.value c.self.inside.snapshot in
    let named = c.self.invariant.0.ready.named in
    let one : c.from.result ≡ cond (is_counted c.say-item.result) 1 0 = c.from.ensures ∙ byte_cond c.is_counted.result ∙ ap (λ b. cond b 1 0) c.is_counted.ensures in (
      steady_said _ _ _ c.self.invariant.0 c.say-item.new.work c.say-item.result (c.self.inside.sent + c.from.result) (c.say-item.ensures.ready rows named) (c.say-item.ensures.item rows named)
          (c.say-item.ensures.doing rows named)
          (ap (λ n. c.self.inside.sent + n) one),
      c.self.invariant.1,
    )

pub returns-clause-item : goal.returns-clause-item
returns-clause-item g c =
    let rows = map g.R.Row.value c.self.inside.snapshot in
    subst (λ p. item_at p.rows c.say-item.result ≡ option_map (λ step. step.0) (said p)) c.self.view_is (says_item _ c.say-item.result (c.say-item.ensures.item rows c.self.invariant.0.ready.named))

pub returns-clause-place : goal.returns-clause-place
returns-clause-place g c =
    let rows = map g.R.Row.value c.self.inside.snapshot in
    let named = c.self.invariant.0.ready.named in
    let one : c.from.result ≡ cond (is_counted c.say-item.result) 1 0 = c.from.ensures ∙ byte_cond c.is_counted.result ∙ ap (λ b. cond b 1 0) c.is_counted.ensures in
    ap (λ p. option_map (λ step. step.1) (said p)) (sym c.self.view_is)
    ∙ says_place _ c.say-item.result (doing_of rows c.say-item.new.work) (c.self.inside.sent + c.from.result) (c.say-item.ensures.item rows named) (c.say-item.ensures.doing rows named)
    (ap (λ n. c.self.inside.sent + n) one)
