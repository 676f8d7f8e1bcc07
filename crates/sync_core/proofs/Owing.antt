-- How many counted items a side owes, as it hears.
use Rattle.std.proofs.Common.{◌≡◌, ℕ, zero, suc, ◌+◌, ◌*◌, ◌≤◌, ◌-◌, Bool, true, false, cond, List, [], ◌∷◌, ◌++◌, map, length, flat_map, nat_eq, Option, Some, None, Result, Ok, Err, refl, subst, arith}
use Rattle.std.proofs.lemmas.List.{length-append, length-map}
use Rattle.willow_area.specs.Boxes.{Ranges}
use Rattle.willow_area.specs.Cuts.{lower_part, upper_part}
use Rattle.willow_area.specs.declared.cut.CutAt.{CutAt}
use Rattle.willow_entry.specs.Row.{RowValue}
use Rattle.exchange_rules.specs.Items as rules
use Rattle.exchange_rules.specs.Answer.{turn, reply}
use Rattle.exchange_rules.specs.AnyPeer.{part_asks}
use Rattle.range_split.specs.Parts.{parts_at}
use Rattle.sync_msg.specs.Items.{ItemValue, HasPrints, HavePrints}
use Rattle.sync_msg.specs.declared.item.Item.TheVariants.{First, Agree, Split, Parts, Entries, Rest, Row, EndTurn, Bye}
use Rattle.sync_msg.specs.declared.refusal.CoreRefusal.{CoreRefusal}
use Rattle.sync_msg.specs.declared.refusal.CoreRefusal.TheVariants.{ItemMismatch}
use Rattle.sync_core.specs.SyncRules.{sync_rules}
use Rattle.sync_core.specs.Flat.{AskValue, TurnValue, cut_items, items_of, parts_items, split_items, turn_items}
use Rattle.sync_core.specs.Place.{Doing, Saying, Replying, Beginning, Hearing, HearingRows, Parting, Finished, Refused}
use Rattle.sync_core.specs.Steps.{count_one, cut_heard, parts_heard, hearing_rows, row_heard, unless, head_heard, end_heard, turn_heard, first_heard, due_heard, bye_heard, next_heard}
use Rattle.sync_core.specs.Held.{to_count, owing}

-- ---- a turn says one counted item for each ask at most

pub to_count-append : (xs ys : List ItemValue) → to_count (xs ++ ys) ≡ to_count xs + to_count ys
to_count-append [] ys = omega arith
to_count-append (x ∷ xs) ys = omega (arith, to_count-append xs ys)

pub to_count-rows : (rows : List RowValue) → to_count (map (λ r. Row r) rows) ≡ 0
to_count-rows [] = refl
to_count-rows (r ∷ rows) = omega (arith, to_count-rows rows)

to_count-split : (cuts : List CutAt) (prints : List (List ℕ)) → to_count (split_items cuts prints) ≤ 1
to_count-split [] prints = omega arith
to_count-split (at ∷ []) [] = omega arith
to_count-split (at ∷ []) (lower ∷ []) = omega arith
to_count-split (at ∷ []) (lower ∷ upper ∷ []) = omega arith
to_count-split (at ∷ []) (lower ∷ upper ∷ print ∷ prints) = omega arith
to_count-split (at ∷ other ∷ cuts) prints = omega arith

to_count-parts : (cuts : List CutAt) (prints : List (List ℕ)) → to_count (parts_items cuts prints) ≤ 1
to_count-parts cuts [] = omega arith
to_count-parts cuts (print ∷ prints) = omega arith

to_count-cut : (version : ℕ) (cuts : List CutAt) (prints : List (List ℕ)) → to_count (cut_items version cuts prints) ≤ 1
to_count-cut version cuts prints = by_test (nat_eq version 1)
  where
    by_test : (b : Bool) → to_count (cond b (split_items cuts prints) (parts_items cuts prints)) ≤ 1
    by_test true = to_count-split cuts prints
    by_test false = to_count-parts cuts prints

to_count-item : (version : ℕ) (item : rules.Item RowValue (List CutAt)) → to_count (items_of version item) ≤ 1
to_count-item version (rules.First print) = omega arith
to_count-item version rules.Agree = omega arith
to_count-item version (rules.Split cuts prints) = to_count-cut version cuts prints
to_count-item version (rules.Entries rows) = omega (arith, to_count-rows rows)
to_count-item version (rules.Rest rows) = omega (arith, to_count-rows rows)

to_count-items : (version : ℕ) (items : List (rules.Item RowValue (List CutAt))) → to_count (flat_map (items_of version) items) ≤ length items
to_count-items version [] = omega arith
to_count-items version (item ∷ items) = omega (arith, to_count-append (items_of version item) (flat_map (items_of version) items), to_count-item version item, to_count-items version items)

to_count-end : (b : Bool) → to_count (cond b Bye EndTurn ∷ []) ≡ 0
to_count-end true = refl
to_count-end false = refl

pub to_count-turn : (version : ℕ) (t : TurnValue) → to_count (turn_items version t) ≤ length t.items
to_count-turn version t =
    omega (arith, to_count-append (flat_map (items_of version) t.items) (cond t.ends_with_bye Bye EndTurn ∷ []), to_count-end t.ends_with_bye, to_count-items version t.items)

pub to_count-answers : (version : ℕ) (rows : List RowValue) (asks : List AskValue) → to_count (turn_items version (turn (sync_rules version) rows asks)) ≤ length asks
to_count-answers version rows asks =
    omega (arith, to_count-turn version (turn (sync_rules version) rows asks), length-map asks (λ ask. (reply (sync_rules version) rows ask).item))

-- ---- what an item that is read adds

-- no more than so many are owed, where there is a next step
abbrev pub OwesAtMost : ℕ → Result Doing CoreRefusal → Type 0
OwesAtMost most (Ok doing) = owing doing ≤ most
OwesAtMost most (Err cause) = Unit {0}

unless_owes : (most : ℕ) (cause : Option CoreRefusal) (doing : Doing) → owing doing ≤ most → OwesAtMost most (unless cause doing)
unless_owes most None doing h = h
unless_owes most (Some cause) doing h = tt

rows_owe : (ask : AskValue) (asks : List AskValue) (left : ℕ) (read : List RowValue) (opens : List AskValue) → owing (hearing_rows ask asks left read opens) ≤ length opens + 1
rows_owe (rules.Print area print) asks zero read opens = omega (arith, length-append opens (rules.Sent area read ∷ []))
rows_owe (rules.Sent area sent) asks zero read opens = omega arith
rows_owe (rules.Print area print) asks (suc left) read opens = omega arith
rows_owe (rules.Sent area sent) asks (suc left) read opens = omega arith

-- each part that a cut opens comes with a fingerprint
length-part_asks : (parts : List Ranges) (prints : List (List ℕ)) → length (part_asks {R = RowValue} parts prints) ≤ length prints
length-part_asks [] prints = omega arith
length-part_asks (part ∷ parts) [] = omega arith
length-part_asks (part ∷ parts) (print ∷ prints) = omega (arith, length-part_asks parts prints)

module _ (version : ℕ) where
  split_owes : (area : Ranges) (print : List ℕ) (asks opens : List AskValue) (at : CutAt) (lower upper : List ℕ) → OwesAtMost (length opens + 4) (head_heard version (rules.Print area print) asks opens (Split at lower upper))
  split_owes area print asks opens at lower upper = by_test (nat_eq version 1)
    where
      by_test : (b : Bool) → OwesAtMost (length opens + 4) (cond b (cut_heard area asks opens at lower upper) (Err ItemMismatch))
      by_test true =
          let parts = rules.Print (lower_part area at) lower ∷ rules.Print (upper_part area at) upper ∷ [] in
          let few : length (opens ++ parts) ≤ length opens + 4 = omega (arith, length-append opens parts) in
          unless_owes (length opens + 4) _ _ few
      by_test false = tt

  parts_owe : (area : Ranges) (print : List ℕ) (asks opens : List AskValue) (points : List CutAt) (prints : List (List ℕ)) → HavePrints points prints
      → OwesAtMost (length opens + 4) (head_heard version (rules.Print area print) asks opens (Parts points prints))
  parts_owe area print asks opens points prints have = by_test (nat_eq version 1)
    where
      by_test : (b : Bool) → OwesAtMost (length opens + 4) (cond b (Err ItemMismatch) (parts_heard area asks opens points prints))
      by_test true = tt
      by_test false =
          let parts : List AskValue = part_asks (parts_at area points) prints in
          let few : length (opens ++ parts) ≤ length opens + 4 = omega (arith, length-append opens parts, length-part_asks (parts_at area points) prints, have.1.0, have.1.1) in
          unless_owes (length opens + 4) _ _ few

  head_owes : (ask : AskValue) (asks opens : List AskValue) (item : ItemValue) → HasPrints item → OwesAtMost (length opens + 4 * count_one item) (head_heard version ask asks opens item)
  head_owes (rules.Print area print) asks opens Agree has = omega arith
  head_owes (rules.Print area print) asks opens (Split at lower upper) has = split_owes area print asks opens at lower upper
  head_owes (rules.Print area print) asks opens (Parts points prints) has = parts_owe area print asks opens points prints has
  head_owes (rules.Print area print) asks opens (Entries count) has = omega (arith, rows_owe (rules.Print area print) asks count [] opens)
  head_owes (rules.Sent area sent) asks opens (Rest count) has = omega (arith, rows_owe (rules.Sent area sent) asks count [] opens)
  head_owes ask asks opens item has = tt

  end_owes : (rows : List RowValue) (asks : List AskValue) (item : ItemValue) → OwesAtMost (length asks + 4 * count_one item) (end_heard version rows asks item)
  end_owes rows [] Bye = omega arith
  end_owes rows (ask ∷ asks) EndTurn = omega (arith, to_count-answers version rows (ask ∷ asks))
  end_owes rows asks item = tt

  turn_owes : (rows : List RowValue) (asks opens : List AskValue) (item : ItemValue) → HasPrints item → OwesAtMost (length opens + 4 * count_one item) (turn_heard version rows asks opens item)
  turn_owes rows [] opens item has = end_owes rows opens item
  turn_owes rows (ask ∷ asks) opens item has = head_owes ask asks opens item has

first_owes : (area : Option Ranges) (item : ItemValue) → OwesAtMost (0 + 4 * count_one item) (first_heard area item)
first_owes None Bye = omega arith
first_owes (Some area) (First print) = omega arith
first_owes area item = tt

due_owes : (asks : List AskValue) (left : ℕ) (read : List RowValue) (opens : List AskValue) (item : ItemValue) → OwesAtMost (length opens + 1 + 4 * count_one item) (due_heard asks left read opens item)
due_owes (ask ∷ asks) left read opens (Row row) =
    let none : length opens + 1 ≡ length opens + 1 + 4 * count_one {R = RowValue} (Row row) = omega arith in
    subst (λ n. OwesAtMost n (row_heard ask asks left read opens row)) none (unless_owes (length opens + 1) _ _ (rows_owe ask asks (left - 1) _ opens))
due_owes asks left read opens item = tt

bye_owes : (item : ItemValue) → OwesAtMost (0 + 4 * count_one item) (bye_heard item)
bye_owes Bye = omega arith
bye_owes item = tt

pub next_owes : (version : ℕ) (area : Option Ranges) (rows : List RowValue) (doing : Doing) (item : ItemValue) → HasPrints item → OwesAtMost (owing doing + 4 * count_one item) (next_heard version area rows doing item)
next_owes version area rows (Saying items asks) item has = tt
next_owes version area rows Replying item has = tt
next_owes version area rows Beginning item has = first_owes area item
next_owes version area rows (Hearing asks opens) item has = turn_owes version rows asks opens item has
next_owes version area rows (HearingRows asks left read opens) item has = due_owes asks left read opens item
next_owes version area rows Parting item has = bye_owes item
next_owes version area rows Finished item has = tt
next_owes version area rows (Refused cause) item has = tt
