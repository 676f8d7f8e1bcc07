-- Prefixes of prefixes.
use Rattle.std.proofs.Common.{◌≡◌, ℕ, ◌≤◌, List, [], ◌∷◌, ◌++◌, length, take, sym, refl, ap, ◌∙◌, append_assoc, append-nil, arith}
use Rattle.std.proofs.lemmas.List.{length-append}
use Rattle.willow_path.specs.Path.{IsPrefix}

pub prefix_of_itself : (p : List (List ℕ)) → IsPrefix p p
prefix_of_itself p = ([], sym (append-nil p))

pub prefix_chain : (p q r : List (List ℕ)) → IsPrefix p q → IsPrefix q r → IsPrefix p r
prefix_chain p q r a b = (a.0 ++ b.0, b.1 ∙ ap (λ l. l ++ b.0) a.1 ∙ append_assoc p a.0 b.0)

take_front : (p rest : List (List ℕ)) → take (length p) (p ++ rest) ≡ p
take_front [] rest = refl
take_front (part ∷ parts) rest = ap (λ l. part ∷ l) (take_front parts rest)

-- a prefix is one of the fronts
pub prefix_is_front : (p longer : List (List ℕ)) → IsPrefix p longer → (length p ≤ length longer) × (take (length p) longer ≡ p)
prefix_is_front p longer x = (omega (arith, ap length x.1, length-append p x.0), ap (take (length p)) x.1 ∙ take_front p x.0)
