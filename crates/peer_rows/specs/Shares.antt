-- Bytes that are made by shares, and written one share behind the other.
use Rattle.std.specs.Prelude.{◌≡◌, ℕ, ◌+◌, ◌<◌, ◌≤◌, List, [], ◌++◌, length, Result, IfOk, IfSome, slice_get}
use Rattle.std.specs.Global.{Vec}
use Rattle.spelling.specs.declared.ending.NoMemory.{NoMemory}

-- From each share on some bytes are left to be written. The share is the front of these up to the next share, unless there was
-- no memory for it. Behind the last share none are left.
pub record AreShares (left : ℕ → List ℕ) (shares : List (Result (Vec ℕ) NoMemory)) : Type 0 where
  pub some : (k : ℕ) → k < length shares → 0 < length (left k)
  pub each : (k : ℕ) → k < length shares → IfSome (slice_get shares k) (λ share. IfOk share (λ bytes. left k ≡ bytes.items ++ left (k + 1)))
  pub none : (k : ℕ) → length shares ≤ k → left k ≡ []
