-- The spellings of fields, and what fits in them.
use Rattle.std.specs.Prelude.{◌≡◌, ℕ, ◌≤◌, List, [], ◌∷◌, ◌++◌, length, Option, Some, None}
use Rattle.std.specs.List.{flat_map, AllByRecursion}
use Rattle.spelling.specs.Form.{AreBytes}

-- a byte is spelled as itself
abbrev pub byte_spelling : ℕ → List ℕ
byte_spelling b = b ∷ []

-- a byte 00 for none, or a byte 01 and the value
abbrev pub option_spelling : {A : Type 0} → (A → List ℕ) → Option A → List ℕ
option_spelling spell None = 0 ∷ []
option_spelling spell (Some x) = 1 ∷ spell x

-- the number of the bytes, and the bytes
abbrev pub text_spelling : (ℕ → List ℕ) → List ℕ → List ℕ
text_spelling count bytes = count (length bytes) ++ bytes

-- the number of the values, and the values one after the other
abbrev pub list_spelling : {A : Type 0} → (ℕ → List ℕ) → (A → List ℕ) → List A → List ℕ
list_spelling count spell xs = count (length xs) ++ flat_map spell xs

-- so many bytes
abbrev pub AreSoManyBytes : ℕ → List ℕ → Type 0
AreSoManyBytes n bytes = (length bytes ≡ n) × AreBytes bytes

-- so many values that fit
abbrev pub AreMany : {A : Type 0} → (A → Type 0) → ℕ → List A → Type 0
AreMany fits n xs = (length xs ≡ n) × AllByRecursion fits xs

-- bytes up to a limit
abbrev pub IsText : ℕ → List ℕ → Type 0
IsText limit bytes = (length bytes ≤ limit) × AreBytes bytes

-- values that fit, up to a limit
abbrev pub IsList : {A : Type 0} → ℕ → (A → Type 0) → List A → Type 0
IsList limit fits xs = (length xs ≤ limit) × AllByRecursion fits xs
