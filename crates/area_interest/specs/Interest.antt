-- The newest rows of an area, as far as limits leave.
use Rattle.std.specs.Prelude.{◌≡◌, ℕ, ◌+◌, ◌≤◌, Bool, true, ◌&&◌, List, [], ◌∷◌, length, take, Option, None, Some, nat_le, if◌then◌else◌}
use Rattle.std.specs.List.{sum_by}
use Rattle.willow_area.specs.Boxes.{Ranges}
use Rattle.willow_entry.specs.Pruning.{rising}
use Rattle.willow_entry.specs.Row.{RowValue, place_cmp}
use Rattle.block_store.specs.InBox.{rows_in}
use Rattle.recency_index.specs.Rows.{newest_rows}

-- a number is at most the limit; none limits nothing
abbrev pub is_within : Option ℕ → ℕ → Bool
is_within None n = true
is_within (Some most) n = nat_le n most

-- The items at the front, one after the other, as long as they are at most so many and their sizes sum to at most so much,
-- behind others of this number and sum. None behind the first that goes past a limit is taken.
abbrev pub front : {A : Type 0} → (A → ℕ) → Option ℕ → Option ℕ → ℕ → ℕ → List A → List A
front size count bytes n sum [] = []
front size count bytes n sum (x ∷ xs) =
    if is_within count (n + 1) && is_within bytes (sum + size x) then x ∷ front size count bytes (n + 1) (sum + size x) xs else []

-- the most recent of the rows, as far as the limits on their number and on the sum of their payloads' lengths leave
abbrev pub latest : Option ℕ → Option ℕ → List RowValue → List RowValue
latest count bytes rows = front (λ r. r.entry.length) count bytes 0 0 (newest_rows rows)

-- the most recent rows of the box, by rising place
abbrev pub interest : List RowValue → Ranges → Option ℕ → Option ℕ → List RowValue
interest rows area count bytes = rising place_cmp (latest count bytes (rows_in area rows))

-- ---- what this means

-- the first n items keep both limits
pub record KeepsLimits {A : Type 0} (size : A → ℕ) (count bytes : Option ℕ) (xs : List A) (n : ℕ) : Type 0 where
  pub within : n ≤ length xs
  pub few : is_within count n ≡ true
  pub small : is_within bytes (sum_by size (take n xs)) ≡ true

-- no more of the first items do
pub record IsLongest {A : Type 0} (size : A → ℕ) (count bytes : Option ℕ) (xs : List A) (n : ℕ) : Type 0 where
  pub keeps : KeepsLimits size count bytes xs n
  pub most : (k : ℕ) → KeepsLimits size count bytes xs k → k ≤ n

-- without limits all rows of the box are of interest
abbrev pub TakesAllInside : List RowValue → Ranges → Type 0
TakesAllInside rows area = interest rows area None None ≡ rows_in area rows
