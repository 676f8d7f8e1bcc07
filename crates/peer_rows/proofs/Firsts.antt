-- The first cause along a list goes on by one item.
use Rattle.std.proofs.Common.{◌≡◌, ℕ, ◌+◌, suc, List, [], ◌∷◌, ◌++◌, length, Option, Some, None, refl, sym, ap, ◌∙◌, arith, add-zero}
use Rattle.spelling.specs.Answers.{or_else, first_some}

pub or_else-none : {E : Type 0} (o : Option E) → or_else o None ≡ o
or_else-none None = refl
or_else-none (Some e) = refl

or_else-assoc : {E : Type 0} (a b c : Option E) → or_else a (or_else b c) ≡ or_else (or_else a b) c
or_else-assoc None b c = refl
or_else-assoc (Some e) b c = refl

pub first_some-snoc : {X E : Type 0} (step : ℕ → X → Option E) (k : ℕ) (xs : List X) (x : X)
    → first_some step k (xs ++ x ∷ []) ≡ or_else (first_some step k xs) (step (k + length xs) x)
unfolding first_some
first_some-snoc step k [] x = or_else-none (step k x) ∙ ap (λ (n : ℕ). step n x) (sym (add-zero k))
first_some-snoc step k (y ∷ ys) x =
    let same : (k + 1) + length ys ≡ k + suc (length ys) = omega arith in
    ap (or_else (step k y)) (first_some-snoc step (k + 1) ys x ∙ ap (λ (n : ℕ). or_else (first_some step (k + 1) ys) (step n x)) same)
    ∙ or_else-assoc (step k y) (first_some step (k + 1) ys) (step (k + suc (length ys)) x)
