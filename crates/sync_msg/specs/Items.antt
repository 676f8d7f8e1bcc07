-- Items: what contracts see of them, which are in the grammar, and how they are spelled.
use Rattle.std.specs.Prelude.{◌≡◌, ℕ, ◌+◌, ◌<◌, ◌≤◌, ◌-◌, Bool, true, false, List, [], ◌∷◌, ◌++◌, length, flat_map, nat_eq, IsTrue}
use Rattle.std.specs.Int.{w32, w64, to_be_bytes}
use Rattle.std.specs.List.{AllByRecursion}
use Rattle.spelling.specs.Spelling.{AreSoManyBytes}
use Rattle.willow_path.specs.Key.{IsKey}
use Rattle.willow_path.specs.Path.{IsPath}
use Rattle.willow_path.specs.PathSpelling.{path_spelling}
use Rattle.willow_area.specs.declared.cut.CutAt.{CutAt}
use Rattle.willow_area.specs.declared.cut.CutAt.TheVariants as cuts
use Rattle.willow_entry.specs.Row.{RowValue}
use Rattle.willow_entry.specs.Frame.{row_frame, HasFrame}
use Rattle.sync_msg.specs.declared.item.Item.{Item}
use Rattle.sync_msg.specs.declared.item.Item.TheVariants.{First, Agree, Split, Parts, Entries, Rest, Row, EndTurn, Bye}
use Rattle.sync_msg.specs.declared.item.TheConstants.{MAX_ENTRIES, MAX_REST}
use Rattle.sync_msg.specs.CutPoints.{AreCutPoints, first_dimension}
use Rattle.sync_msg.specs.declared.points.TheConstants.{MAX_POINTS}

-- what contracts see of an item: of its row, if it is one, the row's value
abbrev pub ItemValue : Type 0
ItemValue = Item RowValue

abbrev pub item_value : {R : Type 0} → (R → RowValue) → Item R → ItemValue
item_value value (First print) = First print
item_value value Agree = Agree
item_value value (Split at lower upper) = Split at lower upper
item_value value (Parts points prints) = Parts points prints
item_value value (Entries count) = Entries count
item_value value (Rest count) = Rest count
item_value value (Row row) = Row (value row)
item_value value EndTurn = EndTurn
item_value value Bye = Bye

-- the items that count against the limit of an exchange
abbrev pub is_counted : {R : Type 0} → Item R → Bool
is_counted (First print) = true
is_counted Agree = true
is_counted (Split at lower upper) = true
is_counted (Parts points prints) = true
is_counted (Entries count) = true
is_counted (Rest count) = true
is_counted (Row row) = false
is_counted EndTurn = false
is_counted Bye = false

-- ---- what fits

-- a key or a path within its limits; a cut in two by time is not in the grammar
abbrev pub IsCut : CutAt → Type 0
IsCut (cuts.Subspace key) = IsKey key
IsCut (cuts.Path path) = IsPath path
IsCut (cuts.Time time) = ⊥

-- one to three points of one dimension, and one fingerprint more
abbrev pub IsCutInParts : List CutAt → List (List ℕ) → Type 0
IsCutInParts points prints = AreCutPoints points × ((length prints ≡ length points + 1) × AllByRecursion (AreSoManyBytes 32) prints)

-- An item within the grammar of a version that is no row. A cut in two is of version 1, a cut in parts of version 2.
abbrev pub IsHead : ℕ → ItemValue → Type 0
IsHead version (First print) = AreSoManyBytes 32 print
IsHead version Agree = Unit {0}
IsHead version (Split at lower upper) = IsTrue (nat_eq version 1) × (IsCut at × (AreSoManyBytes 32 lower × AreSoManyBytes 32 upper))
IsHead version (Parts points prints) = IsTrue (nat_eq version 2) × IsCutInParts points prints
IsHead version (Entries count) = count ≤ MAX_ENTRIES
IsHead version (Rest count) = count ≤ MAX_REST
IsHead version (Row row) = ⊥
IsHead version EndTurn = Unit {0}
IsHead version Bye = Unit {0}

-- a row of the grammar of bodies that a frame can carry
abbrev pub IsRowItem : (RowValue → Type 0) → ItemValue → Type 0
IsRowItem IsRow (First print) = ⊥
IsRowItem IsRow Agree = ⊥
IsRowItem IsRow (Split at lower upper) = ⊥
IsRowItem IsRow (Parts points prints) = ⊥
IsRowItem IsRow (Entries count) = ⊥
IsRowItem IsRow (Rest count) = ⊥
IsRowItem IsRow (Row row) = IsRow row × HasFrame row
IsRowItem IsRow EndTurn = ⊥
IsRowItem IsRow Bye = ⊥

-- the cut is at a key or at a path
abbrev pub HasPoint : CutAt → Type 0
HasPoint (cuts.Subspace key) = Unit {0}
HasPoint (cuts.Path path) = Unit {0}
HasPoint (cuts.Time time) = ⊥

-- one to three points, and one fingerprint more
abbrev pub HavePrints : List CutAt → List (List ℕ) → Type 0
HavePrints points prints = (0 < length points) × ((length points ≤ MAX_POINTS) × (length prints ≡ length points + 1))

-- so has the item, if it is a cut in parts
abbrev pub HasPrints : ItemValue → Type 0
HasPrints (First print) = Unit {0}
HasPrints Agree = Unit {0}
HasPrints (Split at lower upper) = Unit {0}
HasPrints (Parts points prints) = HavePrints points prints
HasPrints (Entries count) = Unit {0}
HasPrints (Rest count) = Unit {0}
HasPrints (Row row) = Unit {0}
HasPrints EndTurn = Unit {0}
HasPrints Bye = Unit {0}

-- What there is to know of an item before it is spelled: its count is within the grammar, its cut in two is not by time,
-- its cut in parts has one to three points and one fingerprint more, its row fits a frame.
abbrev pub HasSpelling : ItemValue → Type 0
HasSpelling (First print) = Unit {0}
HasSpelling Agree = Unit {0}
HasSpelling (Split at lower upper) = HasPoint at
HasSpelling (Parts points prints) = HavePrints points prints
HasSpelling (Entries count) = count ≤ MAX_ENTRIES
HasSpelling (Rest count) = count ≤ MAX_REST
HasSpelling (Row row) = HasFrame row
HasSpelling EndTurn = Unit {0}
HasSpelling Bye = Unit {0}

-- ---- how they are spelled

-- the dimension in a byte, and the point
abbrev pub cut_spelling : CutAt → List ℕ
cut_spelling (cuts.Subspace key) = 0 ∷ key
cut_spelling (cuts.Path path) = 1 ∷ path_spelling path
cut_spelling (cuts.Time time) = []

-- a point without its dimension
abbrev pub point_spelling : CutAt → List ℕ
point_spelling (cuts.Subspace key) = key
point_spelling (cuts.Path path) = path_spelling path
point_spelling (cuts.Time time) = to_be_bytes w64 time

-- the dimension and the number of the points, the points, and the fingerprints
abbrev pub cut_in_parts_spelling : List CutAt → List (List ℕ) → List ℕ
cut_in_parts_spelling points prints = first_dimension points ∷ length points ∷ flat_map point_spelling points ++ flat_map (λ print. print) prints

-- a byte for the kind and what it carries; a row is its frame
abbrev pub item_spelling : ItemValue → List ℕ
item_spelling (First print) = 1 ∷ print
item_spelling Agree = 2 ∷ []
item_spelling (Split at lower upper) = 3 ∷ cut_spelling at ++ (lower ++ upper)
item_spelling (Parts points prints) = 8 ∷ cut_in_parts_spelling points prints
item_spelling (Entries count) = 4 ∷ count ∷ []
item_spelling (Rest count) = 5 ∷ to_be_bytes w32 count
item_spelling (Row row) = row_frame row
item_spelling EndTurn = 6 ∷ []
item_spelling Bye = 7 ∷ []

-- ---- the rows that follow

-- how many rows are due behind the item, where so many were due before it
abbrev pub due_behind : ℕ → ItemValue → ℕ
due_behind due (First print) = due
due_behind due Agree = due
due_behind due (Split at lower upper) = due
due_behind due (Parts points prints) = due
due_behind due (Entries count) = count
due_behind due (Rest count) = count
due_behind due (Row row) = due - 1
due_behind due EndTurn = due
due_behind due Bye = due
