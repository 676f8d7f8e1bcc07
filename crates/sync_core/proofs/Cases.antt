-- The cases of an item that a side reads.
use Rattle.std.proofs.Common.{◌≡◌, ℕ, ◌+◌, Bool, true, false, cond, nat_eq, nat_le, List, [], ◌∷◌, Option, Some, None, Result, Ok, Err, refl}
use Rattle.willow_area.specs.Boxes.{Ranges}
use Rattle.willow_area.specs.declared.cut.CutAt.{CutAt}
use Rattle.willow_entry.specs.Row.{RowValue}
use Rattle.exchange_rules.specs.Items.{Print, Sent}
use Rattle.sync_msg.specs.Items.{ItemValue}
use Rattle.sync_msg.specs.declared.item.Item.TheVariants.{First, Agree, Split, Parts, Entries, Rest, Row, EndTurn, Bye}
use Rattle.sync_msg.specs.declared.refusal.CoreRefusal.{CoreRefusal}
use Rattle.sync_msg.specs.declared.refusal.CoreRefusal.TheVariants.{BadCut, ItemMismatch, EntryOutside, RowsOutOfOrder, TooManyItems}
use Rattle.sync_core.specs.Flat.{AskValue}
use Rattle.sync_core.specs.Place.{Doing, Saying, Replying, Beginning, Hearing, HearingRows, Parting, Finished, Refused, Place, most_items, answering}
use Rattle.sync_core.specs.Steps.{count_one, hearing_rows, unless, row_heard, cut_heard, parts_heard, head_heard, end_heard, first_heard, due_heard, bye_heard, next_heard, items_with, heard_within, heard}

-- ---- small steps

pub same_ok : {A E : Type 0} (x y : A) → ◌≡◌ {A = Result A E} (Ok x) (Ok y) → x ≡ y
same_ok x y e = cc

pub same_some : {A : Type 0} (x y : A) → Some x ≡ Some y → x ≡ y
same_some x y e = cc

pub not_err : {A E : Type 0} (x : A) (e : E) → ◌≡◌ {A = Result A E} (Err e) (Ok x) → ⊥
not_err x e h = cc

pub unless_ok : {A : Type 0} (o : Option CoreRefusal) (x y : A) → unless o x ≡ Ok y → x ≡ y
unless_ok None x y e = same_ok x y e
unless_ok (Some cause) x y e = absurd (not_err y cause e)

-- ---- the cases

-- what is owed of each item that may come in a version, and of one that may not
pub record AreCases (version : ℕ) (area : Option Ranges) (rows : List RowValue) (P : Doing → ItemValue → Result Doing CoreRefusal → Type 0) : Type 0 where
  pub mismatch : (doing : Doing) (item : ItemValue) → P doing item (Err ItemMismatch)
  pub first_bye : area ≡ None → P Beginning Bye (Ok Replying)
  pub first_print : (box : Ranges) (print : List ℕ) → area ≡ Some box → P Beginning (First print) (Ok (Hearing [] (Print box print ∷ [])))
  pub agree : (box : Ranges) (print : List ℕ) (asks opens : List AskValue) → P (Hearing (Print box print ∷ asks) opens) Agree (Ok (Hearing asks opens))
  pub split : (box : Ranges) (print : List ℕ) (asks opens : List AskValue) (at : CutAt) (lower upper : List ℕ) → nat_eq version 1 ≡ true
      → P (Hearing (Print box print ∷ asks) opens) (Split at lower upper) (cut_heard box asks opens at lower upper)
  pub parts : (box : Ranges) (print : List ℕ) (asks opens : List AskValue) (points : List CutAt) (prints : List (List ℕ)) → nat_eq version 1 ≡ false
      → P (Hearing (Print box print ∷ asks) opens) (Parts points prints) (parts_heard box asks opens points prints)
  pub entries : (box : Ranges) (print : List ℕ) (asks opens : List AskValue) (count : ℕ)
      → P (Hearing (Print box print ∷ asks) opens) (Entries count) (Ok (hearing_rows (Print box print) asks count [] opens))
  pub rest : (box : Ranges) (sent : List RowValue) (asks opens : List AskValue) (count : ℕ)
      → P (Hearing (Sent box sent ∷ asks) opens) (Rest count) (Ok (hearing_rows (Sent box sent) asks count [] opens))
  pub row : (ask : AskValue) (asks : List AskValue) (left : ℕ) (read : List RowValue) (opens : List AskValue) (row : RowValue)
      → P (HearingRows (ask ∷ asks) left read opens) (Row row) (row_heard ask asks left read opens row)
  pub last_bye : P (Hearing [] []) Bye (Ok Replying)
  pub end_turn : (ask : AskValue) (asks : List AskValue) → P (Hearing [] (ask ∷ asks)) EndTurn (Ok (answering version rows (ask ∷ asks)))
  pub farewell : P Parting Bye (Ok Finished)

module _ (version : ℕ) (area : Option Ranges) (rows : List RowValue) (P : Doing → ItemValue → Result Doing CoreRefusal → Type 0) (cases : AreCases version area rows P) where
  first_case : (o : Option Ranges) → area ≡ o → (item : ItemValue) → P Beginning item (first_heard o item)
  first_case None is (First print) = cases.mismatch Beginning (First print)
  first_case None is Agree = cases.mismatch Beginning Agree
  first_case None is (Split at lower upper) = cases.mismatch Beginning (Split at lower upper)
  first_case None is (Parts points prints) = cases.mismatch Beginning (Parts points prints)
  first_case None is (Entries count) = cases.mismatch Beginning (Entries count)
  first_case None is (Rest count) = cases.mismatch Beginning (Rest count)
  first_case None is (Row row) = cases.mismatch Beginning (Row row)
  first_case None is EndTurn = cases.mismatch Beginning EndTurn
  first_case None is Bye = cases.first_bye is
  first_case (Some box) is (First print) = cases.first_print box print is
  first_case (Some box) is Agree = cases.mismatch Beginning Agree
  first_case (Some box) is (Split at lower upper) = cases.mismatch Beginning (Split at lower upper)
  first_case (Some box) is (Parts points prints) = cases.mismatch Beginning (Parts points prints)
  first_case (Some box) is (Entries count) = cases.mismatch Beginning (Entries count)
  first_case (Some box) is (Rest count) = cases.mismatch Beginning (Rest count)
  first_case (Some box) is (Row row) = cases.mismatch Beginning (Row row)
  first_case (Some box) is EndTurn = cases.mismatch Beginning EndTurn
  first_case (Some box) is Bye = cases.mismatch Beginning Bye

  split_case : (box : Ranges) (print : List ℕ) (asks opens : List AskValue) (at : CutAt) (lower upper : List ℕ) (b : Bool) → nat_eq version 1 ≡ b
      → P (Hearing (Print box print ∷ asks) opens) (Split at lower upper) (cond b (cut_heard box asks opens at lower upper) (Err ItemMismatch))
  split_case box print asks opens at lower upper true is = cases.split box print asks opens at lower upper is
  split_case box print asks opens at lower upper false is = cases.mismatch (Hearing (Print box print ∷ asks) opens) (Split at lower upper)

  parts_case : (box : Ranges) (print : List ℕ) (asks opens : List AskValue) (points : List CutAt) (prints : List (List ℕ)) (b : Bool) → nat_eq version 1 ≡ b
      → P (Hearing (Print box print ∷ asks) opens) (Parts points prints) (cond b (Err ItemMismatch) (parts_heard box asks opens points prints))
  parts_case box print asks opens points prints true is = cases.mismatch (Hearing (Print box print ∷ asks) opens) (Parts points prints)
  parts_case box print asks opens points prints false is = cases.parts box print asks opens points prints is

  head_case : (ask : AskValue) (asks opens : List AskValue) (item : ItemValue) → P (Hearing (ask ∷ asks) opens) item (head_heard version ask asks opens item)
  head_case (Print box print) asks opens (First other) = cases.mismatch (Hearing (Print box print ∷ asks) opens) (First other)
  head_case (Print box print) asks opens Agree = cases.agree box print asks opens
  head_case (Print box print) asks opens (Split at lower upper) = split_case box print asks opens at lower upper (nat_eq version 1) refl
  head_case (Print box print) asks opens (Parts points prints) = parts_case box print asks opens points prints (nat_eq version 1) refl
  head_case (Print box print) asks opens (Entries count) = cases.entries box print asks opens count
  head_case (Print box print) asks opens (Rest count) = cases.mismatch (Hearing (Print box print ∷ asks) opens) (Rest count)
  head_case (Print box print) asks opens (Row row) = cases.mismatch (Hearing (Print box print ∷ asks) opens) (Row row)
  head_case (Print box print) asks opens EndTurn = cases.mismatch (Hearing (Print box print ∷ asks) opens) EndTurn
  head_case (Print box print) asks opens Bye = cases.mismatch (Hearing (Print box print ∷ asks) opens) Bye
  head_case (Sent box sent) asks opens (First print) = cases.mismatch (Hearing (Sent box sent ∷ asks) opens) (First print)
  head_case (Sent box sent) asks opens Agree = cases.mismatch (Hearing (Sent box sent ∷ asks) opens) Agree
  head_case (Sent box sent) asks opens (Split at lower upper) = cases.mismatch (Hearing (Sent box sent ∷ asks) opens) (Split at lower upper)
  head_case (Sent box sent) asks opens (Parts points prints) = cases.mismatch (Hearing (Sent box sent ∷ asks) opens) (Parts points prints)
  head_case (Sent box sent) asks opens (Entries count) = cases.mismatch (Hearing (Sent box sent ∷ asks) opens) (Entries count)
  head_case (Sent box sent) asks opens (Rest count) = cases.rest box sent asks opens count
  head_case (Sent box sent) asks opens (Row row) = cases.mismatch (Hearing (Sent box sent ∷ asks) opens) (Row row)
  head_case (Sent box sent) asks opens EndTurn = cases.mismatch (Hearing (Sent box sent ∷ asks) opens) EndTurn
  head_case (Sent box sent) asks opens Bye = cases.mismatch (Hearing (Sent box sent ∷ asks) opens) Bye

  end_case : (opens : List AskValue) (item : ItemValue) → P (Hearing [] opens) item (end_heard version rows opens item)
  end_case [] (First print) = cases.mismatch (Hearing [] []) (First print)
  end_case [] Agree = cases.mismatch (Hearing [] []) Agree
  end_case [] (Split at lower upper) = cases.mismatch (Hearing [] []) (Split at lower upper)
  end_case [] (Parts points prints) = cases.mismatch (Hearing [] []) (Parts points prints)
  end_case [] (Entries count) = cases.mismatch (Hearing [] []) (Entries count)
  end_case [] (Rest count) = cases.mismatch (Hearing [] []) (Rest count)
  end_case [] (Row row) = cases.mismatch (Hearing [] []) (Row row)
  end_case [] EndTurn = cases.mismatch (Hearing [] []) EndTurn
  end_case [] Bye = cases.last_bye
  end_case (ask ∷ asks) (First print) = cases.mismatch (Hearing [] (ask ∷ asks)) (First print)
  end_case (ask ∷ asks) Agree = cases.mismatch (Hearing [] (ask ∷ asks)) Agree
  end_case (ask ∷ asks) (Split at lower upper) = cases.mismatch (Hearing [] (ask ∷ asks)) (Split at lower upper)
  end_case (ask ∷ asks) (Parts points prints) = cases.mismatch (Hearing [] (ask ∷ asks)) (Parts points prints)
  end_case (ask ∷ asks) (Entries count) = cases.mismatch (Hearing [] (ask ∷ asks)) (Entries count)
  end_case (ask ∷ asks) (Rest count) = cases.mismatch (Hearing [] (ask ∷ asks)) (Rest count)
  end_case (ask ∷ asks) (Row row) = cases.mismatch (Hearing [] (ask ∷ asks)) (Row row)
  end_case (ask ∷ asks) EndTurn = cases.end_turn ask asks
  end_case (ask ∷ asks) Bye = cases.mismatch (Hearing [] (ask ∷ asks)) Bye

  due_case : (asks : List AskValue) (left : ℕ) (read : List RowValue) (opens : List AskValue) (item : ItemValue) → P (HearingRows asks left read opens) item (due_heard asks left read opens item)
  due_case [] left read opens item = cases.mismatch (HearingRows [] left read opens) item
  due_case (ask ∷ asks) left read opens (First print) = cases.mismatch (HearingRows (ask ∷ asks) left read opens) (First print)
  due_case (ask ∷ asks) left read opens Agree = cases.mismatch (HearingRows (ask ∷ asks) left read opens) Agree
  due_case (ask ∷ asks) left read opens (Split at lower upper) = cases.mismatch (HearingRows (ask ∷ asks) left read opens) (Split at lower upper)
  due_case (ask ∷ asks) left read opens (Parts points prints) = cases.mismatch (HearingRows (ask ∷ asks) left read opens) (Parts points prints)
  due_case (ask ∷ asks) left read opens (Entries count) = cases.mismatch (HearingRows (ask ∷ asks) left read opens) (Entries count)
  due_case (ask ∷ asks) left read opens (Rest count) = cases.mismatch (HearingRows (ask ∷ asks) left read opens) (Rest count)
  due_case (ask ∷ asks) left read opens (Row row) = cases.row ask asks left read opens row
  due_case (ask ∷ asks) left read opens EndTurn = cases.mismatch (HearingRows (ask ∷ asks) left read opens) EndTurn
  due_case (ask ∷ asks) left read opens Bye = cases.mismatch (HearingRows (ask ∷ asks) left read opens) Bye

  parting_case : (item : ItemValue) → P Parting item (bye_heard item)
  parting_case (First print) = cases.mismatch Parting (First print)
  parting_case Agree = cases.mismatch Parting Agree
  parting_case (Split at lower upper) = cases.mismatch Parting (Split at lower upper)
  parting_case (Parts points prints) = cases.mismatch Parting (Parts points prints)
  parting_case (Entries count) = cases.mismatch Parting (Entries count)
  parting_case (Rest count) = cases.mismatch Parting (Rest count)
  parting_case (Row row) = cases.mismatch Parting (Row row)
  parting_case EndTurn = cases.mismatch Parting EndTurn
  parting_case Bye = cases.farewell

  -- what holds in each case holds of what the side does then
  pub by_cases : (doing : Doing) (item : ItemValue) → P doing item (next_heard version area rows doing item)
  by_cases (Saying items asks) item = cases.mismatch (Saying items asks) item
  by_cases Replying item = cases.mismatch Replying item
  by_cases Beginning item = first_case area refl item
  by_cases (Hearing [] opens) item = end_case opens item
  by_cases (Hearing (ask ∷ asks) opens) item = head_case ask asks opens item
  by_cases (HearingRows asks left read opens) item = due_case asks left read opens item
  by_cases Parting item = parting_case item
  by_cases Finished item = cases.mismatch Finished item
  by_cases (Refused cause) item = cases.mismatch (Refused cause) item

-- ---- with the number of items

-- the place of a side that has heard an item
abbrev pub heard_to : Place → ItemValue → Doing → Place
heard_to place item doing = record place { read = place.read + count_one item; doing = doing }

-- an item that is heard is one that may come
pub record IsHeardTo (place : Place) (item : ItemValue) (next : Place) : Type 0 where
  pub doing : Doing
  pub comes : next_heard place.version place.area place.rows place.doing item ≡ Ok doing
  pub then : next ≡ heard_to place item doing

module _ (place : Place) (item : ItemValue) (next : Place) where
  never : (b : Bool) (one other : CoreRefusal) → ◌≡◌ {A = Result Place CoreRefusal} (cond b (Err one) (Err other)) (Ok next) → ⊥
  never true one other e = cc
  never false one other e = cc

  counted : (b : Bool) (doing : Doing) (other : CoreRefusal) → next_heard place.version place.area place.rows place.doing item ≡ Ok doing
      → ◌≡◌ {A = Result Place CoreRefusal} (cond b (Ok (heard_to place item doing)) (Err other)) (Ok next) → IsHeardTo place item next
  counted true doing other comes e = record { doing = doing; comes = comes; then = cc }
  counted false doing other comes e = absurd cc

  by_outcome : (r : Result Doing CoreRefusal) → next_heard place.version place.area place.rows place.doing item ≡ r → heard_within place item r ≡ Ok next → IsHeardTo place item next
  by_outcome (Ok doing) is e = counted (nat_le (items_with place item) (most_items place.area place.rows)) doing (TooManyItems (items_with place item)) is e
  by_outcome (Err ItemMismatch) is e = absurd cc
  by_outcome (Err BadCut) is e = absurd (never (nat_le (items_with place item) (most_items place.area place.rows)) BadCut (TooManyItems (items_with place item)) e)
  by_outcome (Err EntryOutside) is e = absurd (never (nat_le (items_with place item) (most_items place.area place.rows)) EntryOutside (TooManyItems (items_with place item)) e)
  by_outcome (Err RowsOutOfOrder) is e = absurd (never (nat_le (items_with place item) (most_items place.area place.rows)) RowsOutOfOrder (TooManyItems (items_with place item)) e)
  by_outcome (Err (TooManyItems n)) is e = absurd (never (nat_le (items_with place item) (most_items place.area place.rows)) (TooManyItems n) (TooManyItems (items_with place item)) e)

  pub heard_as : heard place item ≡ Ok next → IsHeardTo place item next
  unfolding heard
  heard_as e = by_outcome (next_heard place.version place.area place.rows place.doing item) refl e
