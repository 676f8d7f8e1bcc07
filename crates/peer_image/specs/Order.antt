-- How the rows of an image are ordered: they rise by subspace and path, and none dominates a later one.
use Rattle.std.specs.Prelude.{◌≡◌, ◌↔◌, ℕ, ◌+◌, List, [], ◌∷◌, ◌++◌, length, Contains, Option, Some, None, if◌then◌else◌}
use Rattle.std.specs.List.{position_from, AllByRecursion}
use Rattle.std.specs.List.Sorted.{IsStrictlySortedBy}
use Rattle.std.specs.Ordering.{is_lt}
use Rattle.spelling.specs.Answers.{or_else}
use Rattle.willow_entry.specs.Row.{RowValue, is_dominating, Dominates, live, inner_place_cmp}
use Rattle.peer_image.specs.declared.refusal.ImageRefusal.{ImageRefusal}
use Rattle.peer_image.specs.declared.refusal.ImageRefusal.TheVariants.{NotRising, Pruned}

-- by strictly rising (subspace, path)
abbrev pub IsInnerRising : List RowValue → Type 0
IsInnerRising = IsStrictlySortedBy inner_place_cmp

-- the first row that does not stand above the row before it; r stands before all of them, and k is the
-- number of the first of them
unfoldable pub fall_after : ℕ → RowValue → List RowValue → Option ImageRefusal
fall_after k r [] = None
fall_after k r (s ∷ rows) = if is_lt (inner_place_cmp r s) then fall_after (k + 1) s rows else Some (NotRising k)

-- the first row, counted from 1, that does not stand above the row before it
unfoldable pub first_fall : List RowValue → Option ImageRefusal
first_fall [] = None
first_fall (r ∷ rows) = fall_after 2 r rows

-- the refusal of row k where row by dominates it
abbrev pub pruned_by : ℕ → Option ℕ → Option ImageRefusal
pruned_by k (Some by) = Some (Pruned k by)
pruned_by k None = None

-- the first row behind the earlier ones that a row before it dominates, and the first such, counted from 1
unfoldable pub pruned_after : List RowValue → List RowValue → Option ImageRefusal
pruned_after earlier [] = None
pruned_after earlier (r ∷ rows) =
    or_else (pruned_by (length earlier + 1) (position_from (λ s. is_dominating s r) 1 earlier)) (pruned_after (earlier ++ r ∷ []) rows)

-- the first row that an earlier one dominates
abbrev pub first_pruned : List RowValue → Option ImageRefusal
first_pruned = pruned_after []

-- why the rows are none of a store: they do not rise, or else one is pruned
abbrev pub order_refusal : List RowValue → Option ImageRefusal
order_refusal rows = or_else (first_fall rows) (first_pruned rows)

-- the rows rise by subspace and path, and none of them dominates another
pub record IsInOrder (rows : List RowValue) : Type 0 where
  pub rising : IsInnerRising rows
  pub undominated : (r s : RowValue) → Contains rows r → Contains rows s → Dominates r s → ⊥

-- Rows are not refused for their order exactly where they are in order.
abbrev pub IsOrder : Type 0
IsOrder = (rows : List RowValue) → (order_refusal rows ≡ None) ↔ IsInOrder rows

-- the rows are of this namespace
abbrev pub AreOf : List ℕ → List RowValue → Type 0
AreOf n = AllByRecursion (λ r. r.entry.namespace ≡ n)

-- Rows of one namespace are in order exactly where they are what a store keeps of them.
abbrev pub IsOrderOfLive : Type 0
IsOrderOfLive = (n : List ℕ) (rows : List RowValue) → AreOf n rows → (order_refusal rows ≡ None) ↔ (live rows ≡ rows)
