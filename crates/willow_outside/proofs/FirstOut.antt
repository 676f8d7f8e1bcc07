-- What holds of all items when the first goes out.
use Rattle.std.proofs.Common.{◌≡◌, zero, suc, ◌<◌, List, [], ◌∷◌, length, Contains, refl, sym, subst, arith}
use Rattle.std.specs.List.{AllByRecursion}

-- of the first
pub first_out-first : {X : Type 0} (P : X → Type 0) (old rest : List X) (x : X) → old ≡ x ∷ rest → ((y : X) → Contains old y → P y) → P x
first_out-first {X} P old rest x e all =
    let Q : List X → Type 0 = λ xs. Contains xs x in
    let here : 0 < length (x ∷ rest) = omega arith in
    all x (subst Q (sym e) (0, here, refl))

-- and of the others
pub first_out-rest : {X : Type 0} (P : X → Type 0) (old rest : List X) (x : X) → old ≡ x ∷ rest → ((y : X) → Contains old y → P y) → (y : X) → Contains rest y → P y
first_out-rest {X} P old rest x e all y (k, within, found) =
    let Q : List X → Type 0 = λ xs. Contains xs y in
    let later : suc k < length (x ∷ rest) = omega arith in
    all y (subst Q (sym e) (suc k, later, found))

-- what holds of all by recursion holds of each item
pub each-from_all : {X : Type 0} (P : X → Type 0) (xs : List X) → AllByRecursion P xs → (y : X) → Contains xs y → P y
each-from_all P [] all y (k, within, found) = absurd (omega arith)
each-from_all P (x ∷ xs) all y (zero, within, found) = subst P found all.0
each-from_all P (x ∷ xs) all y (suc k, within, found) =
    let earlier : k < length xs = omega arith in
    each-from_all P xs all.1 y (k, earlier, found)
