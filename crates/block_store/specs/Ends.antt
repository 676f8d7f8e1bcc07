-- Tests that rows of one namespace pass up to a position, and none behind it: whether they stand below an end.
use Rattle.std.specs.Prelude.{◌≡◌, ℕ, Bool, true, false, List, Option}
use Rattle.std.specs.List.Sorted.{IsPartitionPoint}
use Rattle.std.specs.Ordering.{match_ordering}
use Rattle.willow_path.specs.Path.{part_cmp, path_cmp}
use Rattle.willow_area.specs.Range.{is_before_end}
use Rattle.willow_entry.specs.Row.{RowValue}

-- the row's subspace is below the end, where there is one
abbrev pub is_before_key : Option (List ℕ) → RowValue → Bool
is_before_key end row = is_before_end part_cmp row.entry.subspace end

-- the row's subspace is below the key, or it is the key and the row's path is below the end, where there is one
abbrev pub is_before_path : List ℕ → Option (List (List ℕ)) → RowValue → Bool
is_before_path key end row = match_ordering (part_cmp row.entry.subspace key) true (is_before_end path_cmp row.entry.path end) false

-- the first so many rows pass the test, and no other
abbrev pub PassUpTo : (RowValue → Bool) → List RowValue → ℕ → Type 0
PassUpTo test rows n = IsPartitionPoint (λ r. test r ≡ true) (λ r. test r ≡ false) rows n
