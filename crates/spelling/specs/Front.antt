-- What stands at the front of bytes, for a reader that goes from left to right.
use Rattle.std.specs.Prelude.{ℕ, List}

-- one whole value and the bytes behind it, the beginning of a value, or neither
pub data Front (A : Type 0) : Type 0 where
  Whole : A → List ℕ → Front A
  Part : Front A
  Wrong : Front A

-- reads on behind a whole value; what is read on takes the value and the bytes behind it
infixl 10 ◌>>=◌
abbrev pub ◌>>=◌ : {A B : Type 0} → Front A → (A × List ℕ → Front B) → Front B
(Whole x rest) >>= f = f (x, rest)
Part >>= f = Part
Wrong >>= f = Wrong
