-- How a side asks its signer for its one signature.
use Rattle.std.specs.Prelude.{◌≡◌, ◌⊎◌, ℕ, Bool, List, Option, None, Result, Ok, Err, OnOk}
use Rattle.willow_outside.specs.Counts.{HasRisen}
use Rattle.sync_link.specs.declared.side.standing.Stop.{Stop}
use Rattle.sync_link.specs.declared.side.standing.Stop.TheVariants.{SignFault, NoMemory}

-- a side that is not signed was not before, and its signer is as it was
abbrev pub IsUnasked : {K : Type 0} → Option (List ℕ) → Option (List ℕ) → K → K → Type 0
IsUnasked made_old made_new old new = made_new ≡ None → (made_old ≡ None) × (new ≡ old)

-- the signer is as it was, or as behind one call by a side that was not signed
abbrev pub AsksOnce : {K : Type 0} → (K → K → Type 0) → Option (List ℕ) → K → K → Type 0
AsksOnce asks made old new = (new ≡ old) ⊎ ((made ≡ None) × asks old new)

-- the signer and the signature are as they were; or the side was not signed, and so it is, which is so only where its proof is due
abbrev pub AsksWhere : {K : Type 0} → Option (List ℕ) → Option (List ℕ) → K → K → Type 0 → Type 0
AsksWhere made_old made_new old new due = ((new ≡ old) × (made_new ≡ made_old)) ⊎ ((made_old ≡ None) × due)

-- a signer fails only where its count of faults rose or nothing was left of it
abbrev pub CanFail : ℕ → ℕ → ℕ → Type 0
CanFail left before now = (left ≡ 0) ⊎ HasRisen before now

-- it fails only a side that is not signed
abbrev pub FailsSign : Option (List ℕ) → ℕ → ℕ → ℕ → Type 0
FailsSign made left before now = (made ≡ None) × CanFail left before now

-- its count of faults stands unless it failed, which is never told as want of memory
abbrev pub CountsSign : {A : Type 0} → Option (List ℕ) → ℕ → ℕ → ℕ → Result A Stop → Type 0
CountsSign made left before now (Ok a) = now ≡ before
CountsSign made left before now (Err SignFault) = FailsSign made left before now
CountsSign made left before now (Err NoMemory) = now ≡ before

-- What a call asks of the signer of a side, by the signature of the side before and behind it: the signer may give what it might before,
-- it is asked once at most, and only where the side is not signed; and where the call goes well and the side is not signed then, not at all.
pub record IsAskedOnce {K A E : Type 0} (gives : K → List ℕ → List ℕ → Bool) (asks : K → K → Type 0) (made_old made_new : Option (List ℕ)) (old new : K) (result : Result A E) : Type 0 where
  pub gives_same : gives new ≡ gives old
  pub unasked : OnOk result (IsUnasked made_old made_new old new)
  pub once : AsksOnce asks made_old old new

-- The same of a call that tells by its result whether the signer failed.
pub record SignsOnce {K A : Type 0} (gives : K → List ℕ → List ℕ → Bool) (asks : K → K → Type 0) (left faults : K → ℕ) (made_old made_new : Option (List ℕ)) (old new : K) (result : Result A Stop) : Type 0 where
  pub asked : IsAskedOnce gives asks made_old made_new old new result
  pub counts : CountsSign made_old (left old) (faults old) (faults new) result
