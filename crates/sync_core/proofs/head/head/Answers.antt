use Rattle.std.proofs.Common.{rules, ◌≡◌, ℕ, ◌<◌, Bool, true, false, cond, List, [], ◌∷◌, ◌++◌, map, length, get_or, nat_eq, Ok, Err, refl, sym, ap, ap₂, ◌∙◌, subst, arith}
use Rattle.std.specs.Prelude.{IsOk, is_ok, not}
use Rattle.std.proofs.lemmas.Bool.{eqb-true}
use Rattle.std.proofs.lemmas.Result.{err_from_is_err_and}
use Rattle.spelling.specs.Answers.{cause_if}
use Rattle.willow_area.specs.Boxes.{Ranges}
use Rattle.willow_area.specs.declared.cut.CutAt.{CutAt}
use Rattle.willow_entry.specs.Row.{RowValue}
use Rattle.range_split.specs.Parts.{can_cut_at, parts_at}
use Rattle.range_split.proofs.CutTest.{parts_number}
use Rattle.exchange_rules.specs.AnyPeer.{part_asks}
use Rattle.sync_msg.specs.Items.{HasPrints, HavePrints, item_value}
use Rattle.sync_msg.specs.declared.refusal.CoreRefusal.TheVariants.{BadCut, ItemMismatch}
use Rattle.sync_msg.specs.declared.item.Item.{Item}
use Rattle.sync_msg.specs.declared.item.Item.TheVariants as items
use Rattle.sync_core.specs.declared.ask.Owed.{Owed}
use Rattle.sync_core.specs.declared.ask.Owed.TheVariants as owed
use Rattle.sync_core.specs.Flat.{AskValue}
use Rattle.sync_core.specs.Place.{Doing, Hearing}
use Rattle.sync_core.specs.Steps.{turn_heard, unless}
use Rattle.sync_core.specs.Held.{ask_value, owed_value, settled}
use Rattle.sync_core.proofs.Hearing.{does_no_memory}
use Rattle.sync_core.proofs.Telling.{no_cause}
use Rattle.sync_core.proofs.head.head.Goals as goal

told_for_print : (version : ℕ) (rows : List RowValue) (asked : List Owed) (opens : List AskValue) (o : Owed) (area : Ranges) (print : List ℕ) (count : ℕ) → 0 < length asked → o ≡ get_or asked 0 o → o ≡ owed.Print area print
    → turn_heard version rows (map (owed_value rows) asked) opens (items.Entries count) ≡ Ok (settled (map (owed_value rows) asked) opens count [])
told_for_print version rows [] opens o area print count some here is = absurd (omega arith)
told_for_print version rows (x ∷ rest) opens o area print count some here is =
    let asks = map (owed_value rows) rest in
    subst (λ y. turn_heard version rows (owed_value rows y ∷ asks) opens (items.Entries count) ≡ Ok (settled (owed_value rows y ∷ asks) opens count [])) (sym is ∙ here) refl

told_for_rows : (version : ℕ) (rows : List RowValue) (asked : List Owed) (opens : List AskValue) (o : Owed) (area : Ranges) (count : ℕ) → 0 < length asked → o ≡ get_or asked 0 o → o ≡ owed.Rest area
    → turn_heard version rows (map (owed_value rows) asked) opens (items.Rest count) ≡ Ok (settled (map (owed_value rows) asked) opens count [])
told_for_rows version rows [] opens o area count some here is = absurd (omega arith)
told_for_rows version rows (x ∷ rest) opens o area count some here is =
    let asks = map (owed_value rows) rest in
    subst (λ y. turn_heard version rows (owed_value rows y ∷ asks) opens (items.Rest count) ≡ Ok (settled (owed_value rows y ∷ asks) opens count [])) (sym is ∙ here) refl

told_in_parts : (version : ℕ) (rows : List RowValue) (asked : List Owed) (opens : List AskValue) (o : Owed) (area : Ranges) (print : List ℕ) (points : List CutAt) (prints : List (List ℕ)) → 0 < length asked → o ≡ get_or asked 0 o → o ≡ owed.Print area print
    → nat_eq version 1 ≡ false → can_cut_at area points ≡ true → IsOk (turn_heard version rows (map (owed_value rows) asked) opens (items.Parts points prints))
told_in_parts version rows [] opens o area print points prints some here is later can = absurd (omega arith)
told_in_parts version rows (x ∷ rest) opens o area print points prints some here is later can =
    let asks = map (owed_value rows) rest in
    let heard : Doing = Hearing asks (opens ++ part_asks (parts_at area points) prints) in
    subst (λ y. IsOk (turn_heard version rows (owed_value rows y ∷ asks) opens (items.Parts points prints))) (sym is ∙ here)
    (ap₂ (λ b inside. is_ok (cond b (Err ItemMismatch) (unless (cause_if (not inside) BadCut) heard))) later can)

not_one : (n : ℕ) → (n ≡ 1 → ⊥) → nat_eq n 1 ≡ false
not_one n h = by_test (nat_eq n 1) refl
  where
    by_test : (b : Bool) → nat_eq n 1 ≡ b → nat_eq n 1 ≡ false
    by_test true e = absurd (h (eqb-true n 1 e))
    by_test false e = e

pub open_parts-requires : goal.open_parts-requires
open_parts-requires g c =
    let arm = c.in-Some-Print-Parts in
    let parts = c.in_ok-parts-in-Some-Print-Parts.parts in
    let have : HavePrints arm.points arm.prints = subst (λ (i : Item g.row.Q.Denot). HasPrints (item_value g.Q.Row.value i)) arm.is-1 c.requires.prints in
    omega (arith, have.1.1, parts_number arm.area arm.points parts.items c.in_ok-parts-in-Some-Print-Parts.ensures.parts, parts.ok)

pub returns-in_err-open_two-in-Some-Print-Split : goal.returns-in_err-open_two-in-Some-Print-Split
returns-in_err-open_two-in-Some-Print-Split g c = λ rows.
    let r = c.from_residual-in_err-open_two-in-Some-Print-Split in
    let p = err_from_is_err_and r.result r.ensures.1 in
    let asks = map (owed_value rows) c.args.ear.now.owed.items in
    let opens = map ask_value c.args.ear.now.opens.items in
    let passes : IsOk (turn_heard c.args.version rows asks opens (item_value g.Q.Row.value c.args.item.now)) = search rules in
    does_no_memory _ _ _ r.result p.0 p.1 p.2 (c.in_err-open_two-in-Some-Print-Split.ensures.kept rows) passes

pub returns-in_err-open_parts-in-Some-Print-Parts : goal.returns-in_err-open_parts-in-Some-Print-Parts
returns-in_err-open_parts-in-Some-Print-Parts g c = λ rows.
    let r = c.from_residual-in_err-open_parts-in-Some-Print-Parts in
    let p = err_from_is_err_and r.result r.ensures.1 in
    let arm = c.in-Some-Print-Parts in
    let asked = c.args.ear.now.owed.items in
    let opens = map ask_value c.args.ear.now.opens.items in
    let heard = λ (i : Item g.row.Q.Denot). turn_heard c.args.version rows (map (owed_value rows) asked) opens (item_value g.Q.Row.value i) in
    let later = not_one c.args.version (λ e. omega (arith, c.if-version-ne1.true, e)) in
    let can : can_cut_at arm.area arm.points ≡ true = no_cause (can_cut_at arm.area arm.points) BadCut c.in_ok-parts-in-Some-Print-Parts.ensures.answer in
    let passes : IsOk (heard c.args.item.now) =
    ap (λ (i : Item g.row.Q.Denot). is_ok (heard i)) arm.is-1 ∙ told_in_parts c.args.version rows asked opens _ arm.area arm._print arm.points arm.prints c.requires.asked arm.ensures.lookup (search rules) later can in
    does_no_memory _ _ _ r.result p.0 p.1 p.2 (c.in_err-open_parts-in-Some-Print-Parts.ensures.kept rows) passes

pub returns-in_err-rows_told-in-Some-Print-Entries : goal.returns-in_err-rows_told-in-Some-Print-Entries
returns-in_err-rows_told-in-Some-Print-Entries g c = λ rows.
    let r = c.from_residual-in_err-rows_told-in-Some-Print-Entries in
    let p = err_from_is_err_and r.result r.ensures.1 in
    let arm = c.in-Some-Print-Entries in
    let asked = c.args.ear.now.owed.items in
    let opens = map ask_value c.args.ear.now.opens.items in
    let heard = λ (i : Item g.row.Q.Denot). turn_heard c.args.version rows (map (owed_value rows) asked) opens (item_value g.Q.Row.value i) in
    let passes : IsOk (heard c.args.item.now) =
    ap is_ok (ap heard (arm.is-1 ∙ ap (λ n. items.Entries n) (sym c.from.ensures)) ∙ told_for_print c.args.version rows asked opens _ arm._area arm._print c.from.result c.requires.asked arm.ensures.lookup (search rules)) in
    does_no_memory _ _ _ r.result p.0 p.1 p.2 (c.in_err-rows_told-in-Some-Print-Entries.ensures.kept rows) passes

pub returns-in_err-rows_told-in-Some-Rest-Rest : goal.returns-in_err-rows_told-in-Some-Rest-Rest
returns-in_err-rows_told-in-Some-Rest-Rest g c = λ rows.
    let r = c.from_residual-in_err-rows_told-in-Some-Rest-Rest in
    let p = err_from_is_err_and r.result r.ensures.1 in
    let arm = c.in-Some-Rest-Rest in
    let asked = c.args.ear.now.owed.items in
    let opens = map ask_value c.args.ear.now.opens.items in
    let heard = λ (i : Item g.row.Q.Denot). turn_heard c.args.version rows (map (owed_value rows) asked) opens (item_value g.Q.Row.value i) in
    let passes : IsOk (heard c.args.item.now) =
    ap is_ok (ap heard arm.is-1 ∙ told_for_rows c.args.version rows asked opens _ arm._area arm.count c.requires.asked arm.ensures.lookup (search rules)) in
    does_no_memory _ _ _ r.result p.0 p.1 p.2 (c.in_err-rows_told-in-Some-Rest-Rest.ensures.kept rows) passes

pub returns-in_ok-rows_told-in-Some-Print-Entries : goal.returns-in_ok-rows_told-in-Some-Print-Entries
returns-in_ok-rows_told-in-Some-Print-Entries g c = λ rows.
    let arm = c.in-Some-Print-Entries in
    let asked = c.args.ear.now.owed.items in
    let opens = map ask_value c.args.ear.now.opens.items in
    let heard = λ (i : Item g.row.Q.Denot). turn_heard c.args.version rows (map (owed_value rows) asked) opens (item_value g.Q.Row.value i) in
    ap heard (arm.is-1 ∙ ap (λ n. items.Entries n) (sym c.from.ensures))
    ∙ told_for_print c.args.version rows asked opens _ arm._area arm._print c.from.result c.requires.asked arm.ensures.lookup (search rules)
    ∙ ap Ok (sym (c.in_ok-rows_told-in-Some-Print-Entries.ensures.ok rows))

pub returns-in_ok-rows_told-in-Some-Rest-Rest : goal.returns-in_ok-rows_told-in-Some-Rest-Rest
returns-in_ok-rows_told-in-Some-Rest-Rest g c = λ rows.
    let arm = c.in-Some-Rest-Rest in
    let asked = c.args.ear.now.owed.items in
    let opens = map ask_value c.args.ear.now.opens.items in
    let heard = λ (i : Item g.row.Q.Denot). turn_heard c.args.version rows (map (owed_value rows) asked) opens (item_value g.Q.Row.value i) in
    ap heard arm.is-1
    ∙ told_for_rows c.args.version rows asked opens _ arm._area arm.count c.requires.asked arm.ensures.lookup (search rules)
    ∙ ap Ok (sym (c.in_ok-rows_told-in-Some-Rest-Rest.ensures.ok rows))
