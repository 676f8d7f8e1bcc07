-- How the rows of a box are told: all of them where they are few, else by a cut of the box.
use Rattle.std.specs.Prelude.{◌≡◌, ℕ, ◌/◌, List, [], ◌∷◌, length, map, slice_get, slice_index_or, Option, Some, None, IsSomeAnd, nat_le, if◌then◌else◌}
use Rattle.std.specs.Option.{option_map_or}
use Rattle.std.specs.Ordering.{is_gt}
use Rattle.willow_area.specs.Boxes.{Ranges}
use Rattle.willow_entry.specs.Entry.{bytes_cmp}
use Rattle.willow_entry.specs.Row.{RowValue}
use Rattle.block_store.specs.InBox.{is_in, rows_in}
use Rattle.block_store.specs.Positions.{positions}
use Rattle.range_split.specs.Points.{DimensionPoints, by_subspace, by_path}
use Rattle.range_split.specs.Least.{least_above}
use Rattle.range_split.specs.declared.choice.Choice.{Choice}
use Rattle.range_split.specs.declared.choice.Choice.TheVariants.{Entries, AtSubspace, AtPathOf}
use Rattle.range_split.specs.declared.choice.TheConstants.{ENTRIES_MAX}

-- the subspaces of the rows
abbrev pub subspaces_of : List RowValue → List (List ℕ)
subspaces_of rows = map (λ row. row.entry.subspace) rows

-- The points at which many rows are cut, told by the first and by the middle one of them. That is the middle one's
-- subspace, where it is above the first one's; else the least subspace of all rows that is above the first one's, where
-- there is one; else the path of the middle one.
abbrev pub points_of : RowValue → RowValue → List RowValue → DimensionPoints
points_of first middle rows =
    if is_gt (bytes_cmp middle.entry.subspace first.entry.subspace)
    then by_subspace (middle.entry.subspace ∷ [])
    else option_map_or (λ key. by_subspace (key ∷ [])) (least_above first.entry.subspace (subspaces_of rows)) (by_path (middle.entry.path ∷ []))

-- The points at which the rows of a box are cut, or none where the rows are few. Of many rows the middle one is that
-- before which half of them stand, rounded down.
unfoldable pub choice : List RowValue → Option DimensionPoints
choice [] = None
choice (first ∷ rest) =
    if nat_le (length (first ∷ rest)) ENTRIES_MAX
    then None
    else Some (points_of first (slice_index_or (first ∷ rest) (length (first ∷ rest) / 2) first) (first ∷ rest))

-- the position is that of the middle row in the box, and the cut is at that row's path
pub record CutsAtPathOf (area : Ranges) (rows : List RowValue) (at : ℕ) : Type 0 where
  pub middle : slice_get (positions (is_in area) rows) (length (rows_in area rows) / 2) ≡ Some at
  pub cut : IsSomeAnd (slice_get rows at) (λ row. choice (rows_in area rows) ≡ Some (by_path (row.entry.path ∷ [])))

-- the answer is what is chosen for the rows that the box includes
abbrev pub Chooses : Ranges → List RowValue → Choice → Type 0
Chooses area rows Entries = choice (rows_in area rows) ≡ None
Chooses area rows (AtSubspace key) = choice (rows_in area rows) ≡ Some (by_subspace (key ∷ []))
Chooses area rows (AtPathOf at) = CutsAtPathOf area rows at
