-- How the first cause along a list goes with the list's parts.
use Rattle.std.proofs.Common.{◌≡◌, ℕ, zero, suc, ◌+◌, ◌<◌, List, [], ◌∷◌, ◌++◌, length, get_or, Option, Some, None, refl, sym, ap, ◌∙◌, arith, ◌⊎◌, inl, inr}
use Rattle.spelling.specs.Answers.{or_else, first_some}

pub or_else_none : {E : Type 0} (o : Option E) → or_else o None ≡ o
or_else_none (Some e) = refl
or_else_none None = refl

pub or_else_assoc : {E : Type 0} (a b c : Option E) → or_else (or_else a b) c ≡ or_else a (or_else b c)
or_else_assoc (Some e) b c = refl
or_else_assoc None b c = refl

-- none is found where neither is
pub or_else_both : {E : Type 0} (a b : Option E) → or_else a b ≡ None → (a ≡ None) × (b ≡ None)
or_else_both (Some e) b h = absurd cc
or_else_both None b h = (refl, h)

-- which of the two was found
pub or_else_some : {E : Type 0} (a b : Option E) (e : E) → or_else a b ≡ Some e → (a ≡ Some e) ⊎ ((a ≡ None) × (b ≡ Some e))
or_else_some (Some x) b e h = inl h
or_else_some None b e h = inr (refl, h)

pub first_some-nil : {X E : Type 0} (step : ℕ → X → Option E) (k : ℕ) → first_some step k [] ≡ None
unfolding first_some
first_some-nil step k = refl

pub first_some-cons : {X E : Type 0} (step : ℕ → X → Option E) (k : ℕ) (x : X) (xs : List X) → first_some step k (x ∷ xs) ≡ or_else (step k x) (first_some step (k + 1) xs)
unfolding first_some
first_some-cons step k x xs = refl

pub first_some-append : {X E : Type 0} (step : ℕ → X → Option E) (k : ℕ) (xs ys : List X) → first_some step k (xs ++ ys) ≡ or_else (first_some step k xs) (first_some step (k + length xs) ys)
unfolding first_some
first_some-append step k [] ys = ap (λ (n : ℕ). first_some step n ys) (omega arith)
first_some-append step k (x ∷ xs) ys =
    let n : k + 1 + length xs ≡ k + suc (length xs) = omega arith in
    ap (λ (o : Option _). or_else (step k x) o) (first_some-append step (k + 1) xs ys)
    ∙ sym (or_else_assoc (step k x) (first_some step (k + 1) xs) (first_some step (k + 1 + length xs) ys))
    ∙ ap (λ (m : ℕ). or_else (or_else (step k x) (first_some step (k + 1) xs)) (first_some step m ys)) n

-- one more at the end
pub first_some-push : {X E : Type 0} (step : ℕ → X → Option E) (k : ℕ) (xs : List X) (x : X) → first_some step k (xs ++ x ∷ []) ≡ or_else (first_some step k xs) (step (k + length xs) x)
first_some-push step k xs x =
    first_some-append step k xs (x ∷ [])
    ∙ ap (λ (o : Option _). or_else (first_some step k xs) o) (first_some-cons step (k + length xs) x [] ∙ ap (λ (o : Option _). or_else (step (k + length xs) x) o) (first_some-nil step (k + length xs + 1)) ∙ or_else_none (step (k + length xs) x))

-- where there is none along the list, there is none at any place
pub first_some-none : {X E : Type 0} (step : ℕ → X → Option E) (k : ℕ) (xs : List X) (i : ℕ) (d : X) → first_some step k xs ≡ None → i < length xs → step (k + i) (get_or xs i d) ≡ None
unfolding first_some
first_some-none step k [] i d h lt = absurd (omega (arith, lt))
first_some-none step k (x ∷ xs) zero d h lt = ap (λ (n : ℕ). step n x) (omega arith) ∙ (or_else_both (step k x) (first_some step (k + 1) xs) h).0
first_some-none step k (x ∷ xs) (suc i) d h lt =
    let n : k + suc i ≡ k + 1 + i = omega arith in
    ap (λ (m : ℕ). step m (get_or xs i d)) n ∙ first_some-none step (k + 1) xs i d (or_else_both (step k x) (first_some step (k + 1) xs) h).1 (omega (arith, lt))

-- where there is none at any place, there is none along the list
pub first_some-all : {X E : Type 0} (step : ℕ → X → Option E) (k : ℕ) (xs : List X) (d : X) → ((i : ℕ) → i < length xs → step (k + i) (get_or xs i d) ≡ None) → first_some step k xs ≡ None
unfolding first_some
first_some-all step k [] d h = refl
first_some-all {X} {E} step k (x ∷ xs) d h =
    let here : step k x ≡ None = ap (λ (n : ℕ). step n x) (omega arith) ∙ h 0 (omega arith) in
    ap (λ (o : Option E). or_else o (first_some step (k + 1) xs)) here
    ∙ first_some-all step (k + 1) xs d (λ i lt. ap (λ (n : ℕ). step n (get_or xs i d)) (omega arith) ∙ h (suc i) (omega (arith, lt)))
