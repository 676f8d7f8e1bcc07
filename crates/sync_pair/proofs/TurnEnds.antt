-- A turn that is passed on item by item.
use Rattle.std.proofs.Common.{◌≡◌, ℕ, List, [], ◌∷◌, ◌++◌, map, filter_map, flat_map, Option, Some, None, Result, Ok, Err, refl, sym, ap, ap₂, ◌∙◌, subst}
use Rattle.std.specs.Prelude.{IfOk, OnOk, IsOk, is_ok, option_map}
use Rattle.std.specs.Option.{option_to_list}
use Rattle.std.specs.List.{AllByRecursion, cons_option}
use Rattle.std.proofs.lemmas.List.{append-nil, append_assoc}
use Rattle.std.proofs.lemmas.Option.{same_Some}
use Rattle.willow_entry.specs.Row.{RowValue}
use Rattle.sync_msg.specs.Items.{ItemValue, item_value, HasPrints, HasSpelling, item_spelling}
use Rattle.sync_msg.specs.declared.item.Item.{Item}
use Rattle.sync_msg.specs.declared.item.Item.TheVariants.{First, Agree, Split, Parts, Entries, Rest, Row, EndTurn, Bye}
use Rattle.sync_msg.specs.declared.refusal.CoreRefusal.{CoreRefusal}
use Rattle.sync_core.specs.declared.stage.Stage.TheVariants as stage
use Rattle.sync_core.specs.Flat.{row_in}
use Rattle.sync_core.specs.Place.{Place, stage_of}
use Rattle.sync_core.specs.Steps.{heard, said}
use Rattle.sync_core.specs.Runs.{says_all, hears, heard_from}
use Rattle.sync_core.proofs.OneByOne.{says_first, says_nothing, hears_first_item}
use Rattle.sync_pair.specs.Passing.{TurnEnd, turn_end, CanPass}

-- ---- outcomes

pub on_ok : {T E A B : Type 0} (r : Result T E) → (A → B) → OnOk r A → OnOk r B
on_ok (Ok x) f h = f h
on_ok (Err e) f h = tt

pub on_both_ok : {T E A B C : Type 0} (r : Result T E) → (A → B → C) → OnOk r A → OnOk r B → OnOk r C
on_both_ok (Ok x) f h k = f h k
on_both_ok (Err e) f h k = tt

pub always_ok : {T E A : Type 0} (r : Result T E) → A → OnOk r A
always_ok (Ok x) h = h
always_ok (Err e) h = tt

-- ---- the item that is said

-- a side says an item, and then stands so
pub record IsSaid (place next : Place) (o : Option ItemValue) : Type 0 where
  pub item : ItemValue
  pub is : o ≡ Some item
  pub said_is : said place ≡ Some (item, next)
  pub rows : next.rows ≡ place.rows

pub is_said : (place next : Place) (o : Option ItemValue) → o ≡ option_map (λ step. step.0) (said place) → option_map (λ step. step.1) (said place) ≡ Some next → IsSaid place next o
is_said place next o first then = by_said (said place) refl first then
  where
    by_said : (s : Option (ItemValue × Place)) → said place ≡ s → o ≡ option_map (λ step. step.0) s → option_map (λ step. step.1) s ≡ Some next → IsSaid place next o
    by_said None is h k = absurd cc
    by_said (Some step) is h k =
        let same : step.1 ≡ next = same_Some step.1 next k in
        let says : said place ≡ Some (step.0, next) = is ∙ ap (λ p. Some (step.0, p)) same in
        record { item = step.0; is = h; said_is = says; rows = (says_first place next step.0 says).rows }

-- the item that is made of it is the item said
pub says_made : {E : Type 0} {R : Type 0} (value : Item R → ItemValue) (place next : Place) (o : Option ItemValue) (s : IsSaid place next o) (made : Result (Item R) E) → IfOk made (λ item. o ≡ Some (value item)) → IfOk made (λ item. said place ≡ Some (value item, next))
says_made value place next o s (Ok item) h =
    let same : s.item ≡ value item = same_Some s.item (value item) (sym s.is ∙ h) in
    s.said_is ∙ ap (λ i. Some (i, next)) same
says_made value place next o s (Err e) h = tt

-- the row of an item that is kept
pub row_kept : {R : Type 0} (value : R → RowValue) (item : Item R) → map value (option_to_list (row_in item)) ≡ option_to_list (row_in (item_value value item))
row_kept value (First print) = refl
row_kept value Agree = refl
row_kept value (Split at lower upper) = refl
row_kept value (Parts points prints) = refl
row_kept value (Entries count) = refl
row_kept value (Rest count) = refl
row_kept value (Row row) = refl
row_kept value EndTurn = refl
row_kept value Bye = refl

-- ---- what is passed on

-- the end of a turn, by what is said and where that leads
abbrev end_by : Place → List ℕ → List RowValue → List ItemValue × Place → TurnEnd
end_by to bytes got run = record { says = run.1; hears = hears to run.0; bytes = bytes ++ flat_map item_spelling run.0; got = got ++ filter_map row_in run.0 }

rows_behind : (got rows : List RowValue) (o : Option RowValue) → got ++ cons_option o rows ≡ (got ++ option_to_list o) ++ rows
rows_behind got rows None = ap (λ l. l ++ rows) (sym (append-nil got))
rows_behind got rows (Some row) = sym (append_assoc got (row ∷ []) rows)

hears_on : (to next : Place) (item : ItemValue) (items : List ItemValue) → heard to item ≡ Ok next → hears to (item ∷ items) ≡ hears next items
unfolding hears
hears_on to next item items e = ap (heard_from (λ p. hears p items)) e

-- behind the turn all is the same, whether an item was passed on or is still to be
pub passes_on : (from next to then : Place) (item : ItemValue) (bytes : List ℕ) (got : List RowValue) → said from ≡ Some (item, next) → heard to item ≡ Ok then
    → turn_end next then (bytes ++ item_spelling item) (got ++ option_to_list (row_in item)) ≡ turn_end from to bytes got
passes_on from next to then item bytes got says hears_it =
    let items = (says_all next).0 in
    let make : Result Place CoreRefusal → List ℕ → List RowValue → TurnEnd = λ h b g. record { says = (says_all next).1; hears = h; bytes = b; got = g } in
    let one : end_by to bytes got (says_all from) ≡ make (hears to (item ∷ items)) (bytes ++ (item_spelling item ++ flat_map item_spelling items)) (got ++ cons_option (row_in item) (filter_map row_in items)) =
    ap (end_by to bytes got) (says_first from next item says).all in
    let two : make (hears to (item ∷ items)) (bytes ++ (item_spelling item ++ flat_map item_spelling items)) (got ++ cons_option (row_in item) (filter_map row_in items))
    ≡ make (hears then items) ((bytes ++ item_spelling item) ++ flat_map item_spelling items) ((got ++ option_to_list (row_in item)) ++ filter_map row_in items) =
    ap (λ h. make h (bytes ++ (item_spelling item ++ flat_map item_spelling items)) (got ++ cons_option (row_in item) (filter_map row_in items))) (hears_on to then item items hears_it)
    ∙ ap₂ (make (hears then items)) (sym (append_assoc bytes (item_spelling item) (flat_map item_spelling items))) (rows_behind got (filter_map row_in items) (row_in item)) in
    sym (one ∙ two)

-- an item that has a spelling has as many fingerprints as it is to have
prints_of_spelled : (item : ItemValue) → HasSpelling item → HasPrints item
prints_of_spelled (First print) h = tt
prints_of_spelled Agree h = tt
prints_of_spelled (Split at lower upper) h = tt
prints_of_spelled (Parts points prints) h = h
prints_of_spelled (Entries count) h = tt
prints_of_spelled (Rest count) h = tt
prints_of_spelled (Row row) h = tt
prints_of_spelled EndTurn h = tt
prints_of_spelled Bye h = tt

-- what is passed on can be: the next item, and what is behind it
pub record PassesFirst (from next to : Place) (item : ItemValue) : Type 0 where
  pub spelled : HasSpelling item
  pub prints : HasPrints item
  pub may_come : IsOk (heard to item)
  pub rest : (then : Place) → heard to item ≡ Ok then → CanPass next then

pub passes_first : (from next to : Place) (item : ItemValue) → said from ≡ Some (item, next) → CanPass from to → PassesFirst from next to item
passes_first from next to item says can =
    let items = (says_all next).0 in
    let all : (says_all from).0 ≡ item ∷ items = ap (λ r. r.0) (says_first from next item says).all in
    let spelled : AllByRecursion HasSpelling (item ∷ items) = subst (λ l. AllByRecursion HasSpelling l) all can.spelled in
    let ok : IsOk (hears to (item ∷ items)) = subst (λ l. IsOk (hears to l)) all can.heard in
    let first = hears_first_item to item items ok in
    record {
      spelled = spelled.0;
      prints = prints_of_spelled item spelled.0;
      may_come = ap is_ok first.first;
      rest = λ then e. record { spelled = spelled.1; heard = subst (λ o. IsOk o) (hears_on to then item items e) ok };
    }

-- a turn that is all said
pub all_passed : (from to : Place) (bytes : List ℕ) (got : List RowValue) → (stage_of from.doing ≡ stage.Writing → ⊥) → turn_end from to bytes got ≡ record { says = from; hears = Ok to; bytes = bytes; got = got }
unfolding hears
all_passed from to bytes got silent =
    ap (end_by to bytes got) (says_nothing from silent)
    ∙ ap₂ (λ b g. record { says = from; hears = Ok to; bytes = b; got = g }) (append-nil bytes) (append-nil got)
