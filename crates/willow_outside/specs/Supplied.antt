-- Bytes that are given from the front.
use Rattle.std.specs.Prelude.{ℕ, List}

-- what was given, and what is left
pub record Supplied : Type 0 where
  pub given : List ℕ
  pub left : List ℕ
