-- What becomes of rows that are offered to a log: which it covers, and which of them came to a list of one's own.
use Rattle.std.specs.Prelude.{ℕ, ◌≡◌, ◌≤◌, ◌⊎◌, Bool, not, List, [], ◌∷◌, All, length, count_by}
use Rattle.std.specs.List.{list_any}
use Rattle.willow_entry.specs.Row.{RowValue, is_covering, HasCovering}
use Rattle.ns_state.specs.declared.live_log.TheConstants.{LOG_LIMIT}

-- how many of the rows no row of the log is or dominates
abbrev pub is_covered : List RowValue → RowValue → Bool
is_covered log row = list_any (λ s. is_covering s row) log

abbrev pub uncovered : List RowValue → List RowValue → ℕ
uncovered log rows = count_by (λ row. not (is_covered log row)) rows

-- the first list is a part of the second, in its order
abbrev pub IsPart : {A : Type 0} → List A → List A → Type 0
IsPart [] ys = Unit {0}
IsPart (x ∷ xs) [] = ⊥
IsPart (x ∷ xs) (y ∷ ys) = ((x ≡ y) × IsPart xs ys) ⊎ IsPart (x ∷ xs) ys

-- the log covers the rows, or is full
abbrev pub CoversOrIsFull : List RowValue → List RowValue → Type 0
CoversOrIsFull log rows = All (HasCovering log) rows ⊎ (length log ≡ LOG_LIMIT)

-- The log is full, and leaves so many of the rows uncovered.
pub record Misses (log rows : List RowValue) (missed : ℕ) : Type 0 where
  pub full : length log ≡ LOG_LIMIT
  pub counted : missed ≡ uncovered log rows
  pub some : 1 ≤ missed
