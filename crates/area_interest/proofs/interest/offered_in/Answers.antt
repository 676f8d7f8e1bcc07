use Rattle.std.proofs.Common.{◌≡◌, ◌++◌, ◌∷◌, [], List, length, map, filter, sym, ap, ◌∙◌, subst, arith}
use Rattle.std.proofs.lemmas.Result.{IfOk-weaker}
use Rattle.willow_entry.specs.Row.{RowValue, IsRising, live}
use Rattle.willow_entry.proofs.Between.{rising_live}
use Rattle.block_store.specs.BoxKinds.{IsOfOneNamespace}
use Rattle.block_store.specs.Held.{values_of}
use Rattle.block_store.specs.InBox.{is_in, rows_in}
use Rattle.recency_index.specs.declared.ranked.Ranked.{Ranked}
use Rattle.recency_index.specs.Recency.{newest}
use Rattle.recency_index.specs.Rows.{items_of}
use Rattle.area_interest.specs.Interest.{front}
use Rattle.area_interest.specs.Kept.{item_size, is_kept}
use Rattle.area_interest.proofs.ByPosition.{few_inside}
use Rattle.area_interest.proofs.Choosing.{live_part, none_left, all_kept}
use Rattle.area_interest.proofs.Unlimited.{one_inside}
use Rattle.area_interest.proofs.interest.offered_in.Goals as goal

pub index_of-requires-clause-few : goal.index_of-requires-clause-few
index_of-requires-clause-few g c =
    omega (arith, ap length c.deref.ensures.value, few_inside g.R.Row.value (is_in c.args.area.now) c.args.snapshot.now c.in_ok-rows.rows.items c.in_ok-rows.ensures, c.requires.few)

pub index_of-requires-clause-rising : goal.index_of-requires-clause-rising
index_of-requires-clause-rising g c =
    let rows = map g.R.Row.value c.args.snapshot.now in
    let up = rising_live (rows_in c.args.area.now rows) (live_part rows c.known.ensures (is_in c.args.area.now)) in
    subst (λ l. IsRising (values_of g.R.Row.value l)) (sym c.deref.ensures.value) (subst (λ l. IsRising l) (sym c.in_ok-rows.ensures) up)

pub index_of-requires-clause-one : goal.index_of-requires-clause-one
index_of-requires-clause-one g c =
    let one = one_inside (map g.R.Row.value c.args.snapshot.now) c.args.area.now c.requires.one in
    subst (λ l. IsOfOneNamespace (values_of g.R.Row.value l)) (sym c.deref.ensures.value) (subst (λ l. IsOfOneNamespace l) (sym c.in_ok-rows.ensures) one)

pub last_within-last-requires : goal.last_within-last-requires
last_within-last-requires g c =
    omega (arith, c.in_ok-index.ensures.few, ap length c.deref.ensures.value, few_inside g.R.Row.value (is_in c.args.area.now) c.args.snapshot.now c.in_ok-rows.rows.items c.in_ok-rows.ensures, c.len.ensures)

pub chosen-requires : goal.chosen-requires
chosen-requires g c =
    omega (arith, few_inside g.R.Row.value (is_in c.args.area.now) c.args.snapshot.now c.in_ok-rows.rows.items c.in_ok-rows.ensures, c.requires.few)

pub returns-in-None : goal.returns-in-None
returns-in-None g c =
    let value = g.R.Row.value in
    let rows = map value c.args.snapshot.now in
    let inner = rows_in c.args.area.now rows in
    let limits = c.args.limits.now in
    let one = one_inside rows c.args.area.now c.requires.one in
    let items : c.in_ok-index.index.items ≡ newest (items_of inner) =
    c.in_ok-index.ensures.items ∙ ap (λ l. newest (items_of (values_of value l))) c.deref.ensures.value ∙ ap (λ (l : List RowValue). newest (items_of l)) c.in_ok-rows.ensures in
    let none = subst (λ n. front item_size n limits.bytes 0 0 c.in_ok-index.index.items ≡ []) c.count_of-count.ensures c.in-None.ensures in
    IfOk-weaker c.none_of.result _ _
    (λ made is. ap (map value) is
    ∙ sym (none_left one.0 inner (live_part rows c.known.ensures (is_in c.args.area.now)) one.1 limits.newest limits.bytes (sym (ap (front item_size limits.newest limits.bytes 0 0) items) ∙ none)))
    c.none_of.ensures

pub returns-in-Some : goal.returns-in-Some
returns-in-Some g c =
    let value = g.R.Row.value in
    let rows = map value c.args.snapshot.now in
    let inner = rows_in c.args.area.now rows in
    let limits = c.args.limits.now in
    let one = one_inside rows c.args.area.now c.requires.one in
    let items : c.in_ok-index.index.items ≡ newest (items_of inner) =
    c.in_ok-index.ensures.items ∙ ap (λ l. newest (items_of (values_of value l))) c.deref.ensures.value ∙ ap (λ (l : List RowValue). newest (items_of l)) c.in_ok-rows.ensures in
    let ends = subst (λ n. (before : List Ranked) × (front item_size n limits.bytes 0 0 c.in_ok-index.index.items ≡ before ++ c.in-Some.last.now ∷ [])) c.count_of-count.ensures c.in-Some.ensures in
    IfOk-weaker c.chosen.result _ _
    (λ made is. is ∙ ap (λ (l : List RowValue). live (filter (is_kept c.in-Some.last.now) l)) c.in_ok-rows.ensures
    ∙ all_kept one.0 inner (live_part rows c.known.ensures (is_in c.args.area.now)) one.1 limits.newest limits.bytes c.in-Some.last.now ends.0
    (sym (ap (front item_size limits.newest limits.bytes 0 0) items) ∙ ends.1))
    c.chosen.ensures
