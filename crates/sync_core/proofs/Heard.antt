-- A side that has read an item.
use Rattle.std.proofs.Common.{◌≡◌, ℕ, ◌+◌, Bool, true, false, cond, List, nat_le, Option, Some, None, Result, Ok, Err, refl, sym, subst}
use Rattle.std.specs.Prelude.{IsOk}
use Rattle.spelling.specs.declared.ending.End.{End}
use Rattle.spelling.specs.declared.ending.End.TheVariants as end
use Rattle.willow_area.specs.Boxes.{Ranges}
use Rattle.willow_entry.specs.Row.{RowValue}
use Rattle.sync_msg.specs.Items.{ItemValue, is_counted, item_value}
use Rattle.sync_msg.specs.declared.item.Item.{Item}
use Rattle.sync_msg.specs.declared.item.Item.TheVariants.{First, Agree, Split, Parts, Entries, Rest, Row, EndTurn, Bye}
use Rattle.sync_msg.specs.declared.refusal.CoreRefusal.{CoreRefusal}
use Rattle.sync_msg.specs.declared.refusal.CoreRefusal.TheVariants.{ItemMismatch, BadCut, EntryOutside, RowsOutOfOrder, TooManyItems}
use Rattle.sync_core.specs.declared.work.Due.{Due}
use Rattle.sync_core.specs.Flat.{AskValue}
use Rattle.sync_core.specs.Place.{Doing, Place, most_items}
use Rattle.sync_core.specs.Steps.{count_one, turn_heard, next_heard, items_with, heard_within, heard}
use Rattle.sync_core.specs.Held.{due_in, hearing_of}
use Rattle.sync_core.specs.Hears.{Does, within}

-- an item counts where its value does
pub counted_value : {Q : Type 0} (value : Q → RowValue) (item : Item Q) → is_counted (item_value value item) ≡ is_counted item
counted_value value (First print) = refl
counted_value value Agree = refl
counted_value value (Split at lower upper) = refl
counted_value value (Parts points prints) = refl
counted_value value (Entries count) = refl
counted_value value (Rest count) = refl
counted_value value (Row row) = refl
counted_value value EndTurn = refl
counted_value value Bye = refl

-- an item of a turn, by whether rows are due
abbrev pub heard_in : ℕ → List RowValue → List AskValue → List AskValue → Option Due → ItemValue → Result Doing CoreRefusal
heard_in version rows asks opens None item = turn_heard version rows asks opens item
heard_in version rows asks opens (Some due) item = due_in asks opens (Some due) item

pub next_hearing : (version : ℕ) (area : Option Ranges) (rows : List RowValue) (asks opens : List AskValue) (due : Option Due) (item : ItemValue) → next_heard version area rows (hearing_of asks opens due) item ≡ heard_in version rows asks opens due item
next_hearing version area rows asks opens None item = refl
next_hearing version area rows asks opens (Some due) item = refl

-- what an answer says of the place that the rules give, and of the place behind; without memory the same is done, and
-- there is such a place
abbrev pub MatchesHeard : Result Place CoreRefusal → Place → Type 0 → Result (Unit {0}) (End CoreRefusal) → Type 0
MatchesHeard place behind same (Ok done) = place ≡ Ok behind
MatchesHeard place behind same (Err (end.Refused cause)) = place ≡ Err cause
MatchesHeard place behind same (Err end.NoMemory) = same × IsOk place

-- the place of a side that has heard an item
abbrev pub place_then : Place → ItemValue → Doing → Place
place_then place item doing = record place { read = place.read + count_one item; doing = doing }

module _ (place : Place) (item : ItemValue) where
  counted_ok : (doing : Doing) (same : Type 0) (b : Bool) → MatchesHeard (cond b (Ok (place_then place item doing)) (Err (TooManyItems (items_with place item)))) (place_then place item doing) same (cond b (Ok tt) (Err (end.Refused (TooManyItems (items_with place item)))))
  counted_ok doing same true = refl
  counted_ok doing same false = refl

  counted_err : (cause : CoreRefusal) (behind : Place) (same : Type 0) (b : Bool) → MatchesHeard (cond b (Err cause) (Err (TooManyItems (items_with place item)))) behind same (cond b (Err (end.Refused cause)) (Err (end.Refused (TooManyItems (items_with place item)))))
  counted_err cause behind same true = refl
  counted_err cause behind same false = refl

  -- without memory nothing can be against the item but the number of items
  wanting : (old new : Doing) (next : Result Doing CoreRefusal) → new ≡ old → IsOk next
      → MatchesHeard (heard_within place item next) (place_then place item new) (new ≡ old) (within (Err end.NoMemory) (items_with place item) (most_items place.area place.rows))
  wanting old new (Ok doing) same ok = by_test (nat_le (items_with place item) (most_items place.area place.rows))
    where
      by_test : (b : Bool) → MatchesHeard (cond b (Ok (place_then place item doing)) (Err (TooManyItems (items_with place item)))) (place_then place item new) (new ≡ old) (cond b (Err end.NoMemory) (Err (end.Refused (TooManyItems (items_with place item)))))
      by_test true = (same, refl)
      by_test false = refl
  wanting old new (Err cause) same ok = absurd cc

  refused_by : (cause : CoreRefusal) (behind : Place) (same : Type 0) → MatchesHeard (heard_within place item (Err cause)) behind same (within (Err (end.Refused cause)) (items_with place item) (most_items place.area place.rows))
  refused_by ItemMismatch behind same = refl
  refused_by BadCut behind same = counted_err BadCut behind same (nat_le (items_with place item) (most_items place.area place.rows))
  refused_by EntryOutside behind same = counted_err EntryOutside behind same (nat_le (items_with place item) (most_items place.area place.rows))
  refused_by RowsOutOfOrder behind same = counted_err RowsOutOfOrder behind same (nat_le (items_with place item) (most_items place.area place.rows))
  refused_by (TooManyItems n) behind same = counted_err (TooManyItems n) behind same (nat_le (items_with place item) (most_items place.area place.rows))

  matches : (old new : Doing) (next : Result Doing CoreRefusal) (outcome : Result (Unit {0}) (End CoreRefusal)) → Does old new next outcome
      → MatchesHeard (heard_within place item next) (place_then place item new) (new ≡ old) (within outcome (items_with place item) (most_items place.area place.rows))
  matches old new next (Ok done) e =
      let P : Result Doing CoreRefusal → Type 0 = λ x. MatchesHeard (heard_within place item x) (place_then place item new) (new ≡ old) (within (Ok done) (items_with place item) (most_items place.area place.rows)) in
      subst P (sym e) (counted_ok new (new ≡ old) (nat_le (items_with place item) (most_items place.area place.rows)))
  matches old new next (Err (end.Refused cause)) e =
      let P : Result Doing CoreRefusal → Type 0 = λ x. MatchesHeard (heard_within place item x) (place_then place item new) (new ≡ old) (within (Err (end.Refused cause)) (items_with place item) (most_items place.area place.rows)) in
      subst P (sym e) (refused_by cause (place_then place item new) (new ≡ old))
  matches old new next (Err end.NoMemory) e = wanting old new next e.0 e.1

  -- the answer to an item, by what the side does then
  pub answer_matches : (new : Doing) (outcome : Result (Unit {0}) (End CoreRefusal)) → Does place.doing new (next_heard place.version place.area place.rows place.doing item) outcome
      → MatchesHeard (heard place item) (place_then place item new) (new ≡ place.doing) (within outcome (items_with place item) (most_items place.area place.rows))
  unfolding heard
  answer_matches new outcome does = matches place.doing new (next_heard place.version place.area place.rows place.doing item) outcome does
