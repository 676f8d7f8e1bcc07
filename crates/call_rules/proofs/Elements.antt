-- What is made of the elements of a list.
use Rattle.std.proofs.Common.{◌≡◌, ◌⊎◌, inl, inr, ◌∙◌, ◌<◌, ℕ, zero, suc, List, [], ◌∷◌, map, length, get_or, Contains, sym, ap, arith}
use Rattle.std.proofs.lemmas.List.{length-map, get_or-map}
use Rattle.std.proofs.lemmas.List.Elements.{Contains-get_or}

pub contains_map : {A B : Type 0} (f : A → B) (xs : List A) (x : A) → Contains xs x → Contains (map f xs) (f x)
contains_map f xs x at =
    let long = length-map xs f in
    let within = at.1 in
    (at.0, omega (arith, long, within), get_or-map f xs at.0 x (f x) within ∙ ap f at.2)

pub contains_from_map : {A B : Type 0} (f : A → B) (xs : List A) (y : B) → Contains (map f xs) y → (x : A) × Contains xs x × (f x ≡ y)
contains_from_map f [] y at = absurd (omega (arith, at.1))
contains_from_map f (x ∷ xs) y at =
    let long = length-map (x ∷ xs) f in
    let within : at.0 < length (x ∷ xs) = omega (arith, long, at.1) in
    (get_or (x ∷ xs) at.0 x, Contains-get_or (x ∷ xs) at.0 x within, sym (get_or-map f (x ∷ xs) at.0 x y within) ∙ at.2)

pub one_of_three : {A : Type 0} (a b c x : A) → Contains (a ∷ (b ∷ (c ∷ []))) x → (a ≡ x) ⊎ ((b ≡ x) ⊎ (c ≡ x))
one_of_three a b c x at = by at.0 at.1 at.2 where
  by : (k : ℕ) → k < length (a ∷ (b ∷ (c ∷ []))) → get_or (a ∷ (b ∷ (c ∷ []))) k x ≡ x → (a ≡ x) ⊎ ((b ≡ x) ⊎ (c ≡ x))
  by zero within is = inl is
  by (suc zero) within is = inr (inl is)
  by (suc (suc zero)) within is = inr (inr is)
  by (suc (suc (suc k))) within is = absurd (omega (arith, within))
