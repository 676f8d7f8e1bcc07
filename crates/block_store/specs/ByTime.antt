-- The order of rows by time, and what a box includes along it.
use Rattle.std.specs.Prelude.{ℕ, Bool, false, List, length, map, filter, Option, Some, None, slice_get, slice_index_or, IsPermutation}
use Rattle.std.specs.List.{range_with_len}
use Rattle.std.specs.List.Sorted.{IsSorted}
use Rattle.std.specs.Ordering.{nat_cmp, ordering_then}
use Rattle.std.specs.declared.cmp.Ordering.{Ordering}
use Rattle.willow_area.specs.Boxes.{Ranges}
use Rattle.willow_area.specs.Times.{in_times}
use Rattle.willow_entry.specs.Row.{RowValue}
use Rattle.block_store.specs.InBox.{is_in}

-- the time at which the row at a position was written; 0 where none stands there
abbrev pub time_at : List RowValue → ℕ → ℕ
time_at rows at = slice_index_or (map (λ row. row.entry.timestamp) rows) at 0

-- positions by the time of their rows, and at one time by position
abbrev pub time_cmp : List RowValue → ℕ → ℕ → Ordering
time_cmp rows i j = ordering_then (nat_cmp (time_at rows i) (time_at rows j)) (nat_cmp i j)

-- the positions of all rows, each once, by rising time, and at one time by rising position
pub record IsTimeOrder (order : List ℕ) (rows : List RowValue) : Type 0 where
  pub all : IsPermutation (range_with_len 0 (length rows)) order
  pub rise : IsSorted (time_cmp rows) order

-- of positions those whose rows were written within the times of the box
abbrev pub written_in : Ranges → List RowValue → List ℕ → List ℕ
written_in area rows ats = filter (λ at. in_times area.times (time_at rows at)) ats

-- an item is there, and passes
abbrev pub passes : {X : Type 0} → (X → Bool) → Option X → Bool
passes test None = false
passes test (Some x) = test x

-- an item stands at the position, and passes
abbrev pub passes_at : {X : Type 0} → (X → Bool) → List X → ℕ → Bool
passes_at test xs at = passes test (slice_get xs at)

-- of positions those whose rows the box includes
abbrev pub found_at : Ranges → List RowValue → List ℕ → List ℕ
found_at area rows ats = filter (passes_at (is_in area) rows) ats
