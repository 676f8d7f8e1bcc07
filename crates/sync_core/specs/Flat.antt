-- Turns as the items that are sent one by one: each list of rows is told by its number, and its rows follow.
use Rattle.std.specs.Prelude.{ℕ, Bool, true, false, List, [], ◌∷◌, ◌++◌, map, length, flat_map, nat_eq, IsTrue, Option, None, Some, if◌then◌else◌}
use Rattle.std.specs.List.{AllByRecursion}
use Rattle.willow_area.specs.Boxes.{Ranges}
use Rattle.willow_area.specs.declared.cut.CutAt.{CutAt}
use Rattle.willow_entry.specs.Row.{RowValue}
use Rattle.exchange_rules.specs.Items as rules
use Rattle.sync_msg.specs.CutPoints.{are_of_one}
use Rattle.sync_msg.specs.Items.{ItemValue, HavePrints}
use Rattle.sync_msg.specs.declared.item.Item.{Item}
use Rattle.sync_msg.specs.declared.item.Item.TheVariants.{First, Agree, Split, Parts, Entries, Rest, Row, EndTurn, Bye}

-- what is to be answered: a box with a fingerprint or with rows
abbrev pub AskValue : Type 0
AskValue = rules.Ask RowValue Ranges

-- a turn of the rules
abbrev pub TurnValue : Type 0
TurnValue = rules.Turn RowValue (List CutAt)

-- a cut at one point, with the fingerprints of its two parts
abbrev pub split_items : List CutAt → List (List ℕ) → List ItemValue
split_items (at ∷ []) (lower ∷ upper ∷ []) = Split at lower upper ∷ []
split_items cuts prints = []

-- a cut at some points, with the fingerprints of its parts
abbrev pub parts_items : List CutAt → List (List ℕ) → List ItemValue
parts_items cuts [] = []
parts_items cuts (print ∷ prints) = Parts cuts (print ∷ prints) ∷ []

-- the item that tells a cut: in version 1 one in two, in version 2 one in parts
abbrev pub cut_items : ℕ → List CutAt → List (List ℕ) → List ItemValue
cut_items version cuts prints = if nat_eq version 1 then split_items cuts prints else parts_items cuts prints

-- the items of a version that tell an item of the rules
abbrev pub items_of : ℕ → rules.Item RowValue (List CutAt) → List ItemValue
items_of version (rules.First print) = First print ∷ []
items_of version rules.Agree = Agree ∷ []
items_of version (rules.Split cuts prints) = cut_items version cuts prints
items_of version (rules.Entries rows) = Entries (length rows) ∷ map Row rows
items_of version (rules.Rest rows) = Rest (length rows) ∷ map Row rows

-- the items of a turn, with its end
abbrev pub turn_items : ℕ → TurnValue → List ItemValue
turn_items version t = flat_map (items_of version) t.items ++ (if t.ends_with_bye then Bye else EndTurn) ∷ []

-- a cut at one point, which comes with two fingerprints
abbrev pub IsOneCut : List CutAt → List (List ℕ) → Type 0
IsOneCut [] prints = ⊥
IsOneCut (at ∷ []) [] = ⊥
IsOneCut (at ∷ []) (lower ∷ []) = ⊥
IsOneCut (at ∷ []) (lower ∷ upper ∷ []) = Unit {0}
IsOneCut (at ∷ []) (lower ∷ upper ∷ more ∷ prints) = ⊥
IsOneCut (at ∷ other ∷ cuts) prints = ⊥

-- a cut at one to three points of one dimension, which comes with one fingerprint more
abbrev pub IsPartsCut : List CutAt → List (List ℕ) → Type 0
IsPartsCut cuts prints = IsTrue (are_of_one cuts) × HavePrints cuts prints

-- a cut of version 1, or of version 2
abbrev pub IsCutOf : Bool → List CutAt → List (List ℕ) → Type 0
IsCutOf true cuts prints = IsOneCut cuts prints
IsCutOf false cuts prints = IsPartsCut cuts prints

-- an item of the rules that items of a version tell: if it is a cut, then one of the version
abbrev pub IsTold : ℕ → rules.Item RowValue (List CutAt) → Type 0
IsTold version (rules.First print) = Unit {0}
IsTold version rules.Agree = Unit {0}
IsTold version (rules.Split cuts prints) = IsCutOf (nat_eq version 1) cuts prints
IsTold version (rules.Entries rows) = Unit {0}
IsTold version (rules.Rest rows) = Unit {0}

-- a turn of such items
abbrev pub IsToldTurn : ℕ → TurnValue → Type 0
IsToldTurn version t = AllByRecursion (IsTold version) t.items

-- the row of an item, if it is one
abbrev pub row_in : {Q : Type 0} → Item Q → Option Q
row_in (First print) = None
row_in Agree = None
row_in (Split at lower upper) = None
row_in (Parts points prints) = None
row_in (Entries count) = None
row_in (Rest count) = None
row_in (Row row) = Some row
row_in EndTurn = None
row_in Bye = None
