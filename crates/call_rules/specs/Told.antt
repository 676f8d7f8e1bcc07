-- What is told of statuses that were met on the way: the first of them by an order.
use Rattle.std.specs.Prelude.{◌≢◌, ℕ, ◌≤◌, ◌==◌, if◌then◌else◌, List, [], ◌∷◌, Contains}
use Rattle.std.specs.List.{list_any}

-- the first of these statuses that was met, 0 where none was
unfoldable pub first_met : List ℕ → List ℕ → ℕ
first_met [] met = 0
first_met (status ∷ later) met = if list_any (λ m. m == status) met then status else first_met later met

-- in which order statuses are told that were met on the way
abbrev pub told_order : List ℕ
told_order = 7 ∷ 3 ∷ 4 ∷ 6 ∷ 8 ∷ 1 ∷ []

-- it was not met
abbrev pub IsUnmet : List ℕ → ℕ → Type 0
IsUnmet met status = Contains met status → ⊥

-- which statuses are told, by that order
pub record IsTold (status : ℕ) : Type 0 where
  pub small : status ≤ 8
  pub no_usage : status ≢ 2
  pub no_input : status ≢ 5
  pub above : status ≢ 3 → status ≢ 4 → status ≢ 6 → status ≢ 8 → status ≢ 7 → status ≤ 1
