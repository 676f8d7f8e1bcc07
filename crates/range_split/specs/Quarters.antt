-- How the rows of a box are told where it may be cut into up to four parts: all of them where they are few, else by a cut
-- at the quarters of their subspaces or paths, or at those of their times where these divide them far more evenly.
use Rattle.std.specs.Prelude.{ℕ, ◌*◌, ◌/◌, max, Bool, false, not, List, [], ◌∷◌, length, map, filter, take, slice_index_or, Option, Some, None, nat_le, nat_lt, if◌then◌else◌}
use Rattle.std.specs.List.{list_any}
use Rattle.std.specs.Ordering.{is_gt, nat_cmp}
use Rattle.std.specs.declared.cmp.Ordering.{Ordering}
use Rattle.willow_path.specs.Path.{path_cmp}
use Rattle.willow_area.specs.declared.cut.CutAt.{CutAt}
use Rattle.willow_entry.specs.Entry.{bytes_cmp, same_bytes}
use Rattle.willow_entry.specs.Row.{RowValue}
use Rattle.range_split.specs.Points.{DimensionPoints, by_subspace, by_path, by_time, cuts_at}
use Rattle.range_split.specs.Choice.{subspaces_of}
use Rattle.range_split.specs.Sides.{is_row_below}
use Rattle.range_split.specs.declared.choice.TheConstants.{ENTRIES_MAX}

-- ---- rising values

-- a value put among rising ones, before the first that is not below it
unfoldable pub put : {A : Type 0} → (A → A → Ordering) → A → List A → List A
put cmp x [] = x ∷ []
put cmp x (y ∷ ys) = if is_gt (cmp x y) then y ∷ put cmp x ys else x ∷ y ∷ ys

-- the values, rising, with repeats
unfoldable pub sorted : {A : Type 0} → (A → A → Ordering) → List A → List A
sorted cmp [] = []
sorted cmp (x ∷ xs) = put cmp x (sorted cmp xs)

-- of rising values those that are above a low one, each once
unfoldable pub distinct_above : {A : Type 0} → (A → A → Ordering) → A → List A → List A
distinct_above cmp low [] = []
distinct_above cmp low (x ∷ xs) = if is_gt (cmp x low) then x ∷ distinct_above cmp x xs else distinct_above cmp low xs

-- the value that the next one is compared with
abbrev pub next_low : {A : Type 0} → (A → A → Ordering) → A → A → A
next_low cmp low x = if is_gt (cmp x low) then x else low

-- the value before which n quarters of them stand, rounded down
abbrev pub quarter : {A : Type 0} → ℕ → A → List A → A
quarter n other values = slice_index_or values ((n * length values) / 4) other

-- the values at the quarters
abbrev pub quarters : {A : Type 0} → A → List A → List A
quarters other values = quarter 1 other values ∷ quarter 2 other values ∷ quarter 3 other values ∷ []

-- the first values, or where there are none the others
abbrev pub or_others : {A : Type 0} → List A → List A → List A
or_others [] others = others
or_others (x ∷ xs) others = x ∷ xs

-- Where rising values are cut: at the distinct ones at their quarters that are above the least of them; where none is, at
-- the least that is above it; nowhere where all are equal.
unfoldable pub cuts_of : {A : Type 0} → (A → A → Ordering) → List A → List A
cuts_of cmp [] = []
cuts_of cmp (low ∷ values) = or_others (distinct_above cmp low (quarters low (low ∷ values))) (take 1 (distinct_above cmp low (low ∷ values)))

-- where values in any order are cut
abbrev pub cuts_among : {A : Type 0} → (A → A → Ordering) → List A → List A
cuts_among cmp values = cuts_of cmp (sorted cmp values)

-- ---- how evenly rows are divided

-- how many of the rows each part has: that below the first point, those between points, and that from the last one on
unfoldable pub part_sizes : List CutAt → List RowValue → List ℕ
part_sizes [] rows = length rows ∷ []
part_sizes (at ∷ ats) rows = length (filter (is_row_below at) rows) ∷ part_sizes ats (filter (λ row. not (is_row_below at row)) rows)

abbrev pub greatest : List ℕ → ℕ
greatest [] = 0
greatest (n ∷ ns) = max n (greatest ns)

-- the greatest number of rows in one part; all of them where there is no point
abbrev pub load : DimensionPoints → List RowValue → ℕ
load points rows = greatest (part_sizes (cuts_at points) rows)

-- ---- the choice

abbrev pub paths_of : List RowValue → List (List (List ℕ))
paths_of rows = map (λ row. row.entry.path) rows

abbrev pub timestamps_of : List RowValue → List ℕ
timestamps_of rows = map (λ row. row.entry.timestamp) rows

-- the rows have two subspaces or more
abbrev pub have_subspaces : List RowValue → Bool
have_subspaces [] = false
have_subspaces (first ∷ rows) = list_any (λ row. not (same_bytes row.entry.subspace first.entry.subspace)) rows

abbrev pub subspace_points : List RowValue → DimensionPoints
subspace_points rows = by_subspace (cuts_among bytes_cmp (subspaces_of rows))

abbrev pub path_points : List RowValue → DimensionPoints
path_points rows = by_path (cuts_among path_cmp (paths_of rows))

abbrev pub time_points : List RowValue → DimensionPoints
time_points rows = by_time (cuts_among nat_cmp (timestamps_of rows))

-- the points of the base dimension: subspaces where the rows have two, else paths
abbrev pub base_points : List RowValue → DimensionPoints
base_points rows = if have_subspaces rows then subspace_points rows else path_points rows

-- those of times where twice their load is less than the load of the base, else those of the base
unfoldable pub even_points : List RowValue → DimensionPoints
even_points rows = if nat_lt (2 * load (time_points rows) rows) (load (base_points rows) rows) then time_points rows else base_points rows

-- The points at which the rows of a box are cut, or none where the rows are few.
unfoldable pub even_choice : List RowValue → Option DimensionPoints
even_choice rows = if nat_le (length rows) ENTRIES_MAX then None else Some (even_points rows)
