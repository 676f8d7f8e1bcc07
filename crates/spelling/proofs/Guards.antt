-- A test between fields, and what it leaves of the front behind it.
use Rattle.std.proofs.Common.{◌≡◌, ℕ, Bool, true, false, List, refl}
use Rattle.spelling.specs.Front.{Front, Whole, Part, Wrong}
use Rattle.spelling.specs.Reading.{guard}

-- a test that did not make it wrong
pub guard_whole : {A : Type 0} (test : Bool) (front : Front A) (x : A) (rest : List ℕ) → guard test front ≡ Whole x rest → (test ≡ true) × (front ≡ Whole x rest)
guard_whole true front x rest e = (refl, e)
guard_whole false front x rest e = absurd cc

-- a test that left a part a part
pub guard_part : {A : Type 0} (test : Bool) (front : Front A) → guard test front ≡ Part → (test ≡ true) × (front ≡ Part)
guard_part true front e = (refl, e)
guard_part false front e = absurd cc

pub guard_passes : {A : Type 0} (test : Bool) (front : Front A) → test ≡ true → guard test front ≡ front
guard_passes true front h = refl
guard_passes false front h = absurd cc

pub guard_fails : {A : Type 0} (test : Bool) (front : Front A) → test ≡ false → guard test front ≡ Wrong
guard_fails true front h = absurd cc
guard_fails false front h = refl

-- where the front itself is never wrong, the test failed
pub test_fails : {A : Type 0} (test : Bool) (front : Front A) → (front ≡ Wrong → ⊥) → guard test front ≡ Wrong → test ≡ false
test_fails true front never e = absurd (never e)
test_fails false front never e = refl
