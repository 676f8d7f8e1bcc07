-- Checks: what a check answers by the cause that there is to refuse, and how causes are found in order.
use Rattle.std.specs.Prelude.{◌≡◌, ℕ, ◌+◌, List, [], ◌∷◌, Option, Some, None, Result, Ok, Err, Bool, true, false}
use Rattle.spelling.specs.declared.ending.End.{End}
use Rattle.spelling.specs.declared.ending.End.TheVariants.{Refused, NoMemory}

-- The check passes exactly where there is no cause, and refuses with just the cause that there is;
-- for want of memory nothing is said.
abbrev pub Judges : {T E : Type 0} → Result T (End E) → Option E → Type 0
Judges (Ok x) cause = cause ≡ None
Judges (Err (Refused e)) cause = cause ≡ Some e
Judges (Err NoMemory) cause = Unit {0}

-- The same of a check that asks for memory only where there is no cause to refuse.
abbrev pub JudgesFirst : {T E : Type 0} → Result T (End E) → Option E → Type 0
JudgesFirst (Ok x) cause = cause ≡ None
JudgesFirst (Err (Refused e)) cause = cause ≡ Some e
JudgesFirst (Err NoMemory) cause = cause ≡ None

-- the first cause, or else the other
abbrev pub or_else : {E : Type 0} → Option E → Option E → Option E
or_else (Some e) other = Some e
or_else None other = other

-- the cause, where the test holds
abbrev pub cause_if : {E : Type 0} → Bool → E → Option E
cause_if true e = Some e
cause_if false e = None

-- the first cause along the list, where each place is counted up from k
unfoldable pub first_some : {X E : Type 0} → (ℕ → X → Option E) → ℕ → List X → Option E
first_some step k [] = None
first_some step k (x ∷ xs) = or_else (step k x) (first_some step (k + 1) xs)
