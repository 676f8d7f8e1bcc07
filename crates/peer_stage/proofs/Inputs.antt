-- What is taken of an input that tells its bytes.
use Rattle.std.proofs.Common.{◌≡◌, ℕ, ◌≤◌, List, ◌++◌, length, Option, Some, None, sym, ap, ◌∙◌, arith, length-append}
use Rattle.std.specs.Io.KnownBytes.{Consumes, IsAtEnd}
use Rattle.std.proofs.lemmas.List.{append-nil}
use Rattle.willow_outside.specs.Facts.{SourceFacts}
use Rattle.peer_stage.specs.Stages.{IsReadWhole, IsReadTooFar}
use Rattle.peer_stage.specs.Inputs.{HasInput}
use Rattle.peer_stage.specs.declared.stage.TheConstants.{INPUT_LIMIT}

-- what is taken of a source that tells its bytes is no more than it had
taken_few : (left left' : Option (List ℕ)) (had taken : List ℕ) → left ≡ Some had → Consumes left left' taken → length taken ≤ length had
taken_few (Some xs) (Some ys) had taken told is =
    let same : xs ≡ had = cc in
    omega (arith, ap length (sym same ∙ is), length-append taken ys)
taken_few (Some xs) None had taken told is = absurd is
taken_few None left' had taken told is = absurd cc

-- what is read to the end is all that it had
taken_all : (left left' : Option (List ℕ)) (had taken : List ℕ) → left ≡ Some had → Consumes left left' taken → IsAtEnd left' → taken ≡ had
taken_all (Some xs) (Some ys) had taken told is at_end =
    let same : xs ≡ had = cc in
    sym (append-nil taken) ∙ ap (λ (l : List ℕ). taken ++ l) (sym at_end) ∙ sym is ∙ same
taken_all (Some xs) None had taken told is at_end = absurd is
taken_all None left' had taken told is at_end = absurd cc

-- what is taken of it is not too much
pub few_taken : (i i' : SourceFacts) (had bytes : List ℕ) → HasInput i had → Consumes i.left i'.left bytes → length bytes ≤ INPUT_LIMIT
few_taken i i' had bytes has taken = omega (arith, taken_few i.left i'.left had bytes has.told taken, has.within)

pub not_too_far : (i i' : SourceFacts) (had bytes : List ℕ) → HasInput i had → IsReadTooFar INPUT_LIMIT i i' bytes → ⊥
not_too_far i i' had bytes has far = omega (arith, few_taken i i' had bytes has far.taken, far.beyond)

pub is_all : (i i' : SourceFacts) (had bytes : List ℕ) → HasInput i had → IsReadWhole INPUT_LIMIT i i' bytes → bytes ≡ had
is_all i i' had bytes has read = taken_all i.left i'.left had bytes has.told read.taken read.at_end
