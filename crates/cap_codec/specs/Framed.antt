-- Values in frames: the length of a spelling in four bytes, and the spelling.
use Rattle.std.specs.Prelude.{◌≡◌, ℕ, ◌≤◌, List, length, Result, Ok, Err}
use Rattle.std.specs.Int.{w32, to_be_bytes}
use Rattle.spelling.specs.Spelling.{text_spelling}
use Rattle.spelling.specs.declared.ending.End.{End}
use Rattle.spelling.specs.declared.ending.End.TheVariants.{Refused, NoMemory}
use Rattle.spelling.specs.declared.ending.NotHere.{NotHere}
use Rattle.willow_entry.specs.declared.frame.TheConstants.{MAX_FRAME}

-- the length of the spelling in four bytes, and the spelling
abbrev pub framed : {A : Type 0} → (A → List ℕ) → A → List ℕ
framed spell x = text_spelling (to_be_bytes w32) (spell x)

-- a value that fits, and whose spelling a frame may carry
pub record FitsFramed {A : Type 0} (spell : A → List ℕ) (fits : A → Type 0) (x : A) : Type 0 where
  pub value_fits : fits x
  pub short : length (spell x) ≤ MAX_FRAME

-- the value that all the bytes spell, or that no value is spelled so
abbrev pub ReadsAll : {A : Type 0} → (A → List ℕ) → (A → Type 0) → List ℕ → Result A (End NotHere) → Type 0
ReadsAll spell fits bytes (Ok x) = fits x × (bytes ≡ spell x)
ReadsAll {A} spell fits bytes (Err (Refused e)) = (x : A) → fits x → bytes ≡ spell x → ⊥
ReadsAll spell fits bytes (Err NoMemory) = Unit {0}
