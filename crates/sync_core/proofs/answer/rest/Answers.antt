use Rattle.std.proofs.Common.{◌≡◌, ◌++◌, map, Some, length, ℕ, List, sym, ap, ap₂, ◌∙◌, arith}
use Rattle.std.proofs.lemmas.List.{append-nil}
use Rattle.std.proofs.lemmas.Result.{on_ok_weaker}
use Rattle.exchange_rules.specs.Answer.{lacking}
use Rattle.sync_msg.specs.declared.item.Item.TheVariants as items
use Rattle.sync_core.specs.SyncRules.{sync_rules}
use Rattle.sync_core.specs.Held.{owed_value}
use Rattle.sync_core.proofs.Telling.{adds_rows, found_length}
use Rattle.sync_core.proofs.answer.rest.Goals as goal

pub returns : goal.returns
returns g c =
    let rows = map g.R.Row.value c.args.snapshot.now in
    let positions = c.in_ok-positions.positions in
    let found = lacking (sync_rules 1) rows c.args.area.now c.args.sent.now in
    let there = c.in_ok-positions.ensures.rows 1 in
    let number : c.len.result ≡ length found = omega (arith, found_length rows positions.items found there, c.len.ensures, positions.ok) in
    let behind = λ (l : List ℕ). map (λ (at : ℕ). items.Row at) l in
    on_ok_weaker c.push_rows.result
    (λ h version. record {
      items = adds_rows rows c.args.turn.now.items.items c.push_rows.new.items.items (items.Rest c.len.result) (items.Rest (length found)) positions.items found
          (h ∙ ap₂ (λ l r. l ++ behind r) c.in_ok-push.ensures.items c.deref.ensures.value) (ap (λ n. Some (items.Rest n)) number) there;
      opens = sym (append-nil (map (owed_value rows) c.args.turn.now.opens.items));
    })
    c.push_rows.ensures
