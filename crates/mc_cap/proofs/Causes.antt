-- When there is no cause to refuse.
use Rattle.std.proofs.Common.{◌≡◌, ◌↔◌, ℕ, suc, ◌+◌, Bool, true, false, not, cond, List, [], ◌∷◌, Option, Some, None, slice_get, refl, sym, ap, ◌∙◌, arith}
use Rattle.std.proofs.lemmas.Option.{slice_get_within, get_or_from_slice_get}
use Rattle.spelling.specs.Answers.{or_else, cause_if, first_some}
use Rattle.spelling.proofs.Causes.{first_some-none, first_some-nil, first_some-cons}

pub unless_true : {E : Type 0} (test : Bool) (cause : E) → (cause_if (not test) cause ≡ None) ↔ (test ≡ true)
unless_true true cause = (λ e. refl, λ e. refl)
unless_true false cause = (λ e. absurd cc, λ e. absurd cc)

pub if_false : {E : Type 0} (test : Bool) (cause : E) → (cause_if test cause ≡ None) ↔ (test ≡ false)
if_false true cause = (λ e. absurd cc, λ e. absurd cc)
if_false false cause = (λ e. refl, λ e. refl)

pub neither : {E : Type 0} (a b : Option E) → a ≡ None → b ≡ None → or_else a b ≡ None
neither a b none_a none_b = ap (λ (o : Option _). or_else o b) none_a ∙ none_b

-- an earlier cause that there is not
pub later : {E : Type 0} (test : Bool) (cause : E) (other : Option E) → cond test (Some cause) other ≡ None → (test ≡ false) × (other ≡ None)
later true cause other e = absurd cc
later false cause other e = (refl, e)

pub none_at : {X E : Type 0} (step : ℕ → X → Option E) (xs : List X) (i : ℕ) (x : X) → first_some step 0 xs ≡ None → slice_get xs i ≡ Some x → step i x ≡ None
none_at {X} step xs i x none is =
    ap (λ (n : ℕ). step n x) (omega arith) ∙ ap (step (0 + i)) (sym (get_or_from_slice_get xs i x x is)) ∙ first_some-none step 0 xs i x none (slice_get_within xs i x is)

none_from : {X E : Type 0} (step : ℕ → X → Option E) (k : ℕ) (xs : List X) → ((i : ℕ) (x : X) → slice_get xs i ≡ Some x → step (k + i) x ≡ None) → first_some step k xs ≡ None
none_from step k [] h = first_some-nil step k
none_from step k (x ∷ xs) h =
    let here : step k x ≡ None = ap (λ (n : ℕ). step n x) (omega arith) ∙ h 0 x refl in
    first_some-cons step k x xs ∙ neither (step k x) (first_some step (k + 1) xs) here (none_from step (k + 1) xs (λ i y is. ap (λ (n : ℕ). step n y) (omega arith) ∙ h (suc i) y is))

pub none_along : {X E : Type 0} (step : ℕ → X → Option E) (xs : List X) → ((i : ℕ) (x : X) → slice_get xs i ≡ Some x → step i x ≡ None) → first_some step 0 xs ≡ None
none_along step xs h = none_from step 0 xs (λ i x is. ap (λ (n : ℕ). step n x) (omega arith) ∙ h i x is)
