-- What holds of the images that a disk in memory tells.
use Rattle.std.specs.Prelude.{◌≡◌, ℕ, ◌≤◌, List, length, Some, None, Option, is_none}
use mathlib.Core.Path.{sym, ap}
use mathlib.Core.Bool.{true≢false}
use mathlib.Core.Logic.{inl, inr}
use Rattle.std.proofs.Math.Nat.{not-le_of_lt}
use Rattle.willow_outside.specs.declared.disk_tape.DiskCall.{DiskCall}
use Rattle.willow_outside.specs.DiskRecord.{MayLeave, LeftSince, state_now}

or_else : List ℕ → Option (List ℕ) → List ℕ
or_else xs (Some ys) = ys
or_else xs None = xs

some_is : (xs ys : List ℕ) → Some xs ≡ Some ys → ys ≡ xs
unfolding or_else
some_is xs ys e = sym (ap (or_else xs) e)

pub contents_left : (first : List ℕ) (calls : List DiskCall) (c : List ℕ) → Some (state_now first calls).contents ≡ Some c → MayLeave (state_now first calls) c
contents_left first calls c is = inl (some_is (state_now first calls).contents c is)

pub counts_now : (first : List ℕ) (calls : List DiskCall) (t : ℕ) (c : List ℕ) → t ≤ length calls → MayLeave (state_now first calls) c → LeftSince first calls t c
counts_now first calls t c le left = inl left

pub only_now : (first : List ℕ) (calls : List DiskCall) (c : List ℕ) → LeftSince first calls (length calls) c → MayLeave (state_now first calls) c
only_now first calls c (inl now) = now
only_now first calls c (inr (k, since, before, left)) = absurd (not-le_of_lt before since)

pub told_always : (xs c : List ℕ) (images : List ℕ → Type 0) → Some xs ≡ None → images c → ⊥
told_always xs c images untold left = true≢false (sym (ap is_none untold))
