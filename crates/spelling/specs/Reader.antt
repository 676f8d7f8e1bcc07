-- What a reader of a format means: its three answers, told by the spellings alone.
use Rattle.std.specs.Prelude.{◌≡◌, ℕ, ◌<◌, ◌↔◌, List, ◌++◌, length}
use Rattle.spelling.specs.Front.{Front, Whole, Part, Wrong}
use Rattle.spelling.specs.Form.{AreBytes}

-- the bytes begin the spelling of a value that fits, and some bytes of it are still due
pub record Begins {A : Type 0} (spell : A → List ℕ) (fits : A → Type 0) (bytes : List ℕ) : Type 0 where
  pub value : A
  pub due : List ℕ
  pub fits_value : fits value
  pub spelled : spell value ≡ bytes ++ due
  pub some_due : 0 < length due

-- no value that fits is spelled in front of the bytes, whatever stands behind them
abbrev pub BeginsNone : {A : Type 0} → (A → List ℕ) → (A → Type 0) → List ℕ → Type 0
BeginsNone {A} spell fits bytes = (x : A) (more rest : List ℕ) → fits x → bytes ++ more ≡ spell x ++ rest → ⊥

-- A value is whole exactly where its spelling stands in front, with the bytes behind it; the bytes are a part exactly
-- where they begin a spelling and more is due; and they are wrong exactly where no spelling begins so.
pub record IsReader {A : Type 0} (at : List ℕ → Front A) (spell : A → List ℕ) (fits : A → Type 0) : Type 0 where
  pub whole : (bytes : List ℕ) (x : A) (rest : List ℕ) → AreBytes bytes → (at bytes ≡ Whole x rest) ↔ (fits x × (bytes ≡ spell x ++ rest))
  pub part : (bytes : List ℕ) → AreBytes bytes → (at bytes ≡ Part) ↔ Begins spell fits bytes
  pub wrong : (bytes : List ℕ) → AreBytes bytes → (at bytes ≡ Wrong) ↔ BeginsNone spell fits bytes
