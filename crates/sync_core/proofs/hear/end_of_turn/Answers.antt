use Rattle.std.proofs.Common.{◌≡◌, ℕ, zero, suc, ◌<◌, false, nat_eq, List, [], ◌∷◌, ◌++◌, map, flat_map, length, Some, Ok, refl, sym, ap, ap₂, ◌∙◌, arith, length-append}
use Rattle.std.proofs.lemmas.List.{length-map}
use Rattle.willow_entry.specs.Row.{RowValue}
use Rattle.exchange_rules.specs.Answer.{opened, turn}
use Rattle.sync_msg.specs.Items.{ItemValue, item_value}
use Rattle.sync_msg.specs.declared.item.Item.{Item}
use Rattle.sync_msg.specs.declared.item.Item.TheVariants as items
use Rattle.sync_core.specs.SyncRules.{sync_rules}
use Rattle.sync_core.specs.Flat.{items_of, turn_items}
use Rattle.sync_core.specs.Place.{Saying, answering}
use Rattle.sync_core.specs.Steps.{end_heard}
use Rattle.sync_core.specs.Held.{Tell, ask_value, item_at, owed_value}
use Rattle.sync_core.specs.declared.ask.Ask.{Ask}
use Rattle.sync_core.proofs.Lists.{told_items}
use Rattle.sync_core.proofs.Naming.{named}
use Rattle.sync_core.proofs.hear.end_of_turn.Goals as goal

some_from : (n : ℕ) → false ≡ nat_eq n 0 → 0 < n
some_from zero e = absurd cc
some_from (suc n) e = omega arith

ends_turn : (version : ℕ) (rows : List RowValue) (asked : List Ask) → 0 < length asked → end_heard version rows (map ask_value asked) items.EndTurn ≡ Ok (answering version rows (map ask_value asked))
ends_turn version rows [] some = absurd (omega arith)
ends_turn version rows (ask ∷ asked) some = refl

tells_some : (rows : List RowValue) (outs : List (Item ℕ)) (said : List ItemValue) (last : ItemValue) → Tell rows outs (said ++ last ∷ []) → 0 < length outs
tells_some rows outs said last t =
    let e : length (map (item_at rows) outs) ≡ length (map (λ (i : ItemValue). Some i) (said ++ last ∷ [])) = ap length t in
    omega (arith, e, length-map outs (item_at rows), length-map (said ++ last ∷ []) (λ (i : ItemValue). Some i), length-append said (last ∷ []))

pub returns-in_ok-turn-in-EndTurn-clause-does : goal.returns-in_ok-turn-in-EndTurn-clause-does
returns-in_ok-turn-in-EndTurn-clause-does g c =
    let rows = map g.R.Row.value c.args.snapshot.now in
    let asked = c.args.work.now.ear.opens in
    let asks = map ask_value asked.items in
    let outs = c.from_vec.result.items in
    let said = turn_items c.args.version (turn (sync_rules c.args.version) rows asks) in
    let some : 0 < length asked.items = omega (arith, some_from asked.len c.if-not-is_empty.ensures, asked.ok) in
    let told : Tell rows outs said = ap (map (item_at rows)) c.from_vec.ensures.items ∙ c.in_ok-turn-in-EndTurn.ensures.items ∙ ap (λ (l : List Ask). map (λ (i : ItemValue). Some i) (turn_items c.args.version (turn (sync_rules c.args.version) rows (map ask_value l)))) c.deref.ensures.value in
    let opens : map (owed_value rows) c.from_vec-in-EndTurn.result.items ≡ opened (sync_rules c.args.version) rows asks = ap (map (owed_value rows)) c.from_vec-in-EndTurn.ensures.items ∙ c.in_ok-turn-in-EndTurn.ensures.opens ∙ ap (λ (l : List Ask). opened (sync_rules c.args.version) rows (map ask_value l)) c.deref.ensures.value in
    ap (λ (i : Item g.row.Q.Denot). end_heard c.args.version rows asks (item_value g.Q.Row.value i)) c.in-EndTurn.is
    ∙ ends_turn c.args.version rows asked.items some
    ∙ ap Ok (ap₂ Saying (sym (told_items (item_at rows) outs said told)) (sym opens))

pub returns-in_ok-turn-in-EndTurn-clause-ready : goal.returns-in_ok-turn-in-EndTurn-clause-ready
returns-in_ok-turn-in-EndTurn-clause-ready g c =
    let rows = map g.R.Row.value c.args.snapshot.now in
    let outs = c.from_vec.result.items in
    let t = turn (sync_rules c.args.version) rows (map ask_value c.deref.result.now) in
    let told : Tell rows outs (turn_items c.args.version t) = ap (map (item_at rows)) c.from_vec.ensures.items ∙ c.in_ok-turn-in-EndTurn.ensures.items in
    record {
      named = named rows outs (turn_items c.args.version t) told;
      next = tells_some rows outs (flat_map (items_of c.args.version) t.items) _ told;
    }
