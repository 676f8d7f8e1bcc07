-- The places at which a row that covers another may stand.
use Rattle.std.specs.Prelude.{◌≡◌, ℕ, ◌≤◌, Bool, true, List, length, take, slice_index_or, Contains}
use Rattle.willow_entry.specs.Row.{RowValue, is_covering}

-- the row at the first components of its path, so many as the number says
abbrev pub front : RowValue → ℕ → RowValue
front row count = record row { entry = record row.entry { path = take count row.entry.path } }

-- each of the rows has a path of at least so many components
pub record HaveComponents (rows : List RowValue) (count : ℕ) : Type 0 where
  pub each : (s : RowValue) → Contains rows s → count ≤ length s.entry.path

-- each of the rows that covers r has a path of at least so many components
pub record ReachFrom (rows : List RowValue) (r : RowValue) (count : ℕ) : Type 0 where
  pub reach : (s : RowValue) → Contains rows s → is_covering s r ≡ true → count ≤ length s.entry.path

-- whether the row at a position is r or dominates it
abbrev pub covers_at : List RowValue → ℕ → RowValue → Bool
covers_at rows at r = is_covering (slice_index_or rows at r) r
