-- What it means that a format has one spelling a value, and that a decoder answers by it.
use Rattle.std.specs.Prelude.{◌≡◌, ℕ, ◌<◌, ◌≤◌, ◌^◌, List, ◌++◌, length, take, Result, Ok, Err}
use Rattle.std.specs.List.{AllByRecursion}
use Rattle.spelling.specs.declared.ending.End.{End}
use Rattle.spelling.specs.declared.ending.End.TheVariants.{Refused, NoMemory}
use Rattle.spelling.specs.declared.ending.NotHere.{NotHere}

-- each number is a byte
abbrev pub AreBytes : List ℕ → Type 0
AreBytes = AllByRecursion (λ b. b < 2 ^ 8)

-- Each value that fits has one spelling, and no spelling begins another: what is spelled in front of
-- some bytes tells the value and the bytes.
abbrev pub IsForm : {X : Type 0} → (X → List ℕ) → (X → Type 0) → Type 0
IsForm {X} spell fits = (x y : X) (a b : List ℕ) → fits x → fits y → spell x ++ a ≡ spell y ++ b → (x ≡ y) × (a ≡ b)

-- the answer of a decoder: the value that the bytes taken spell, or that no front of the bytes is a spelling
abbrev pub Decodes : {X : Type 0} → (X → List ℕ) → (X → Type 0) → List ℕ → Result (X × ℕ) (End NotHere) → Type 0
Decodes spell fits bytes (Ok x) = fits x.0 × (x.1 ≤ length bytes) × (take x.1 bytes ≡ spell x.0)
Decodes {X} spell fits bytes (Err (Refused e)) = (x : X) (rest : List ℕ) → fits x → bytes ≡ spell x ++ rest → ⊥
Decodes spell fits bytes (Err NoMemory) = Unit {0}
