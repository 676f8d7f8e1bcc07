-- Two sides that each read what the other writes.
use Rattle.std.specs.Prelude.{◌≡◌, ◌≢◌, ℕ, zero, suc, List, [], ◌++◌}
use Rattle.session_rules.specs.Reading.{Ending, More}

-- the whole list begins with the front
pub record IsFront {A : Type 0} (front whole : List A) : Type 0 where
  pub behind : List A
  pub joined : whole ≡ front ++ behind

-- nothing that is read later counts
abbrev pub IsOver : {E : Type 0} → Ending E → Type 0
IsOver end = end ≢ More

-- One side writes what it does to all that the other has written, and then the other what it does to that: what both
-- have written after so many rounds.
unfoldable pub rounds : {A B : Type 0} → (List B → List A) → (List A → List B) → ℕ → List A × List B
rounds left right zero = ([], [])
rounds left right (suc n) = (left (rounds left right n).1, right (left (rounds left right n).1))

-- each writes what it does to all that the other writes
pub record Meet {A B : Type 0} (left : List B → List A) (right : List A → List B) (by_left : List A) (by_right : List B) : Type 0 where
  pub left_writes : by_left ≡ left by_right
  pub right_writes : by_right ≡ right by_left
