-- The items of a turn: the rows among them, and how many count.
use Rattle.std.proofs.Common.{◌≡◌, ℕ, Bool, true, false, cond, List, [], ◌∷◌, ◌++◌, map, filter_map, flat_map, length, nat_eq, Option, Some, None, refl, ap, ap₂, ◌∙◌, arith}
use Rattle.std.specs.List.{AllByRecursion, cons_option}
use Rattle.std.proofs.lemmas.List.{append-nil}
use Rattle.willow_area.specs.declared.cut.CutAt.{CutAt}
use Rattle.willow_entry.specs.Row.{RowValue}
use Rattle.exchange_rules.specs.Items as rules
use Rattle.exchange_rules.specs.Items.{rows_of_item, rows_of_turn}
use Rattle.sync_msg.specs.Items.{ItemValue}
use Rattle.sync_msg.specs.declared.item.Item.TheVariants.{Row, EndTurn, Bye}
use Rattle.sync_core.specs.Flat.{TurnValue, cut_items, items_of, parts_items, split_items, turn_items, IsCutOf, IsOneCut, IsPartsCut, IsTold, IsToldTurn, row_in}
use Rattle.sync_core.specs.Held.{to_count}
use Rattle.sync_core.proofs.Owing.{to_count-append, to_count-rows}

-- the end of a turn
abbrev end_of : Bool → List ItemValue
end_of ends_with_bye = cond ends_with_bye Bye EndTurn ∷ []

-- ---- rows

rows_told-append : (xs ys : List ItemValue) → filter_map row_in (xs ++ ys) ≡ filter_map row_in xs ++ filter_map row_in ys
rows_told-append [] ys = refl
rows_told-append (x ∷ xs) ys = ap (cons_option (row_in x)) (rows_told-append xs ys) ∙ behind (row_in x) (filter_map row_in xs) (filter_map row_in ys)
  where
    behind : (o : Option RowValue) (front back : List RowValue) → cons_option o (front ++ back) ≡ cons_option o front ++ back
    behind None front back = refl
    behind (Some row) front back = refl

rows_told : (rows : List RowValue) → filter_map row_in (map (λ r. Row r) rows) ≡ rows
rows_told [] = refl
rows_told (row ∷ rows) = ap (λ l. row ∷ l) (rows_told rows)

no_rows : (cuts : List CutAt) (prints : List (List ℕ)) → filter_map row_in (split_items cuts prints) ≡ []
no_rows [] prints = refl
no_rows (at ∷ []) [] = refl
no_rows (at ∷ []) (lower ∷ []) = refl
no_rows (at ∷ []) (lower ∷ upper ∷ []) = refl
no_rows (at ∷ []) (lower ∷ upper ∷ more ∷ prints) = refl
no_rows (at ∷ other ∷ cuts) prints = refl

no_rows_in_parts : (cuts : List CutAt) (prints : List (List ℕ)) → filter_map row_in (parts_items cuts prints) ≡ []
no_rows_in_parts cuts [] = refl
no_rows_in_parts cuts (print ∷ prints) = refl

no_rows_in_cut : (version : ℕ) (cuts : List CutAt) (prints : List (List ℕ)) → filter_map row_in (cut_items version cuts prints) ≡ []
no_rows_in_cut version cuts prints = by_test (nat_eq version 1)
  where
    by_test : (b : Bool) → filter_map row_in (cond b (split_items cuts prints) (parts_items cuts prints)) ≡ []
    by_test true = no_rows cuts prints
    by_test false = no_rows_in_parts cuts prints

rows_of_one : (version : ℕ) (item : rules.Item RowValue (List CutAt)) → filter_map row_in (items_of version item) ≡ rows_of_item item
rows_of_one version (rules.First print) = refl
rows_of_one version rules.Agree = refl
rows_of_one version (rules.Split cuts prints) = no_rows_in_cut version cuts prints
rows_of_one version (rules.Entries rows) = rows_told rows
rows_of_one version (rules.Rest rows) = rows_told rows

rows_of_items : (version : ℕ) (items : List (rules.Item RowValue (List CutAt))) → filter_map row_in (flat_map (items_of version) items) ≡ flat_map rows_of_item items
rows_of_items version [] = refl
rows_of_items version (item ∷ items) = rows_told-append (items_of version item) (flat_map (items_of version) items) ∙ ap₂ (λ front back. front ++ back) (rows_of_one version item) (rows_of_items version items)

end_has_none : (b : Bool) → filter_map row_in (end_of b) ≡ []
end_has_none true = refl
end_has_none false = refl

-- the rows among the items of a turn are its rows
pub rows_in_turn : (version : ℕ) (t : TurnValue) → filter_map row_in (turn_items version t) ≡ rows_of_turn t
rows_in_turn version t =
    rows_told-append (flat_map (items_of version) t.items) (end_of t.ends_with_bye)
    ∙ ap₂ (λ front back. front ++ back) (rows_of_items version t.items) (end_has_none t.ends_with_bye)
    ∙ append-nil (rows_of_turn t)

-- ---- items that count

cut_count : (cuts : List CutAt) (prints : List (List ℕ)) → IsOneCut cuts prints → to_count (split_items cuts prints) ≡ 1
cut_count [] prints told = absurd told
cut_count (at ∷ []) [] told = absurd told
cut_count (at ∷ []) (lower ∷ []) told = absurd told
cut_count (at ∷ []) (lower ∷ upper ∷ []) told = refl
cut_count (at ∷ []) (lower ∷ upper ∷ more ∷ prints) told = absurd told
cut_count (at ∷ other ∷ cuts) prints told = absurd told

parts_count : (cuts : List CutAt) (prints : List (List ℕ)) → IsPartsCut cuts prints → to_count (parts_items cuts prints) ≡ 1
parts_count cuts [] told = absurd (omega (arith, told.1.1.1))
parts_count cuts (print ∷ prints) told = refl

cut_item_count : (version : ℕ) (cuts : List CutAt) (prints : List (List ℕ)) → IsCutOf (nat_eq version 1) cuts prints → to_count (cut_items version cuts prints) ≡ 1
cut_item_count version cuts prints = by_test (nat_eq version 1)
  where
    by_test : (b : Bool) → IsCutOf b cuts prints → to_count (cond b (split_items cuts prints) (parts_items cuts prints)) ≡ 1
    by_test true told = cut_count cuts prints told
    by_test false told = parts_count cuts prints told

item_count : (version : ℕ) (item : rules.Item RowValue (List CutAt)) → IsTold version item → to_count (items_of version item) ≡ 1
item_count version (rules.First print) told = refl
item_count version rules.Agree told = refl
item_count version (rules.Split cuts prints) told = cut_item_count version cuts prints told
item_count version (rules.Entries rows) told = omega (arith, to_count-rows rows)
item_count version (rules.Rest rows) told = omega (arith, to_count-rows rows)

items_count : (version : ℕ) (items : List (rules.Item RowValue (List CutAt))) → AllByRecursion (IsTold version) items → to_count (flat_map (items_of version) items) ≡ length items
items_count version [] told = refl
items_count version (item ∷ items) told =
    omega (arith, to_count-append (items_of version item) (flat_map (items_of version) items), item_count version item told.0, items_count version items told.1)

end_count : (b : Bool) → to_count (end_of b) ≡ 0
end_count true = refl
end_count false = refl

-- so many items of a turn count
pub turn_count : (version : ℕ) (t : TurnValue) → IsToldTurn version t → to_count (turn_items version t) ≡ length t.items
turn_count version t told =
    omega (arith, to_count-append (flat_map (items_of version) t.items) (end_of t.ends_with_bye), items_count version t.items told, end_count t.ends_with_bye)
