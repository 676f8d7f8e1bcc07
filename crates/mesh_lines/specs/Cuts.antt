-- Bytes cut at a mark.
use Rattle.std.specs.Prelude.{◌≡◌, ◌≢◌, ℕ, List, ◌∷◌, ◌++◌}
use Rattle.std.specs.List.{AllByRecursion}

-- the mark does not stand among the bytes
abbrev pub Lacks : ℕ → List ℕ → Type 0
Lacks mark bytes = AllByRecursion (λ b. b ≢ mark) bytes

-- the front stands before the first mark, and the others behind it
pub record IsCut (mark : ℕ) (bytes front others : List ℕ) : Type 0 where
  pub whole : bytes ≡ front ++ mark ∷ others
  pub first : Lacks mark front
