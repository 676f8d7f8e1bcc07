-- Disks: what a call does to the contents, what a crash may leave of them, and the moments of a run of calls.
use Rattle.std.specs.Prelude.{◌≡◌, ◌⊎◌, ℕ, ◌+◌, ◌-◌, ◌≤◌, min, max, List, ◌++◌, length, take, drop, Option, Some, IfSome}

-- old with these bytes at this offset
abbrev pub written : ℕ → List ℕ → List ℕ → List ℕ
written at bytes old = take at old ++ (bytes ++ drop (at + length bytes) old)

-- What a crash may leave of a write of n bytes: any bytes in the range and past the old end, a length between the old
-- one and the new one, and the same bytes elsewhere.
pub record IsTorn (at n : ℕ) (old new : List ℕ) : Type 0 where
  pub before : take at new ≡ take at old
  pub after : drop (at + n) new ≡ drop (at + n) old
  pub no_shorter : length old ≤ length new
  pub no_longer : length new ≤ max (length old) (at + n)

-- each image that a crash may leave now is an earlier one, torn by this write
abbrev pub Tears : ℕ → ℕ → (List ℕ → Type 0) → (List ℕ → Type 0) → Type 0
Tears at n old new = (c : List ℕ) → new c → (d : List ℕ) × old d × IsTorn at n d c

-- a crash leaves nothing that it would not have left before
abbrev pub LeavesNoMore : (List ℕ → Type 0) → (List ℕ → Type 0) → Type 0
LeavesNoMore old new = (c : List ℕ) → new c → old c

-- a crash leaves the contents and nothing else
abbrev pub LeavesContents : Option (List ℕ) → (List ℕ → Type 0) → Type 0
LeavesContents contents images = (c : List ℕ) → images c → contents ≡ Some c

-- the place is not past the end, where the contents are told
abbrev pub IsWithin : Option (List ℕ) → ℕ → Type 0
IsWithin contents at = IfSome contents (λ bytes. at ≤ length bytes)

-- the bytes from this place on, as many as asked for, and fewer only at the end
pub record ReadsAt (contents : List ℕ) (at given : ℕ) (buf : List ℕ) : Type 0 where
  pub size : given ≡ min (length buf) (length contents - at)
  pub bytes : take given buf ≡ take given (drop at contents)

-- ---- moments

-- Time goes on: a crash since t might have left what it might have left before, or what it may leave now.
pub record Elapses (before now : ℕ) (past since : ℕ → List ℕ → Type 0) (images : List ℕ → Type 0) : Type 0 where
  pub later : before ≤ now
  pub nothing_else : (t : ℕ) (c : List ℕ) → t ≤ before → since t c → past t c ⊎ images c
  pub keeps : (t : ℕ) (c : List ℕ) → t ≤ before → past t c → since t c

-- Each image that a crash may leave at any moment since old has P.
pub record LeavesOnly {D : Type 0} (moment : D → ℕ) (left_since : D → ℕ → List ℕ → Type 0) (old new : D) (P : List ℕ → Type 0) : Type 0 where
  pub later : moment old ≤ moment new
  pub each : (c : List ℕ) → left_since new (moment old) c → P c
  -- for a run that began earlier
  pub earlier : (t : ℕ) (c : List ℕ) → t ≤ moment old → left_since new t c → left_since old t c ⊎ P c
