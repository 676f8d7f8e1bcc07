-- What stands at the front of bytes of which more may come.
use Rattle.std.specs.Prelude.{◌≡◌, ℕ, ◌≤◌, ◌⊎◌, List, [], ◌∷◌, ◌++◌, length, take}
use Rattle.session_rules.specs.Machine.{Seen, Part, Wrong}
use Rattle.session_rules.specs.Messages.{IsReadAs}

-- a message stands there, in just so many bytes
pub record IsFound {M : Type 0} (sees : List ℕ → Seen M) (bytes : List ℕ) (m : M) (taken : ℕ) : Type 0 where
  pub within : taken ≤ length bytes
  pub reads : IsReadAs sees (take taken bytes) m

-- the bytes, read one by one behind those held, are a part of a message until they are of none
abbrev pub GoWrong : {M : Type 0} → (List ℕ → Seen M) → List ℕ → List ℕ → Type 0
GoWrong sees held [] = ⊥
GoWrong sees held (byte ∷ bytes) = (sees (held ++ byte ∷ []) ≡ Wrong) ⊎ ((sees (held ++ byte ∷ []) ≡ Part) × GoWrong sees (held ++ byte ∷ []) bytes)
