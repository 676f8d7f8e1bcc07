-- What stands in short lists.
use Rattle.std.proofs.Common.{◌≡◌, [], ◌∷◌, Contains, ⊎_elim, arith}
use Rattle.std.proofs.lemmas.List.Elements.{Contains-push_cases}

pub none_in : {A : Type 0} (x : A) → Contains [] x → ⊥
none_in x c = omega (arith, c.1)

pub in_one : {A : Type 0} (x y : A) → Contains (x ∷ []) y → x ≡ y
in_one x y c = ⊎_elim (λ none. absurd (none_in y none)) (λ e. e) (Contains-push_cases [] x y c)
