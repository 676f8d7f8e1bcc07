-- Items that pass from the front of a list, one by one.
use Rattle.std.proofs.Common.{◌≡◌, ◌≤◌, List, [], ◌∷◌, ◌++◌, length, map, All, sym, ap, ◌∙◌, append_assoc, subst, arith}
use Rattle.std.proofs.lemmas.List.{append-nil, map-append, length-append, length-map}
use Rattle.std.proofs.lemmas.List.Elements.{All-push, All-head, All-tail}

-- what holds of all of them holds of the first, and of those that are left
pub first_has : {X : Type 0} (P : X → Type 0) (rest left : List X) (x : X) → rest ≡ x ∷ left → All P rest → P x
first_has P rest left x next all = All-head P x left (subst (All P) next all)

pub left_have : {X : Type 0} (P : X → Type 0) (rest left : List X) (x : X) → rest ≡ x ∷ left → All P rest → All P left
left_have P rest left x next all = All-tail P x left (subst (All P) next all)

-- and what holds of all items and of one more holds with that behind them
pub all_have : {X : Type 0} (P : X → Type 0) (done more : List X) (x : X) → more ≡ done ++ x ∷ [] → All P done → P x → All P more
all_have P done more x pushed all one = subst (All P) (sym pushed) (All-push P done x all one)

-- one more passed
pub passed_one_more : {X : Type 0} (whole done rest left : List X) (x : X) → done ++ rest ≡ whole → rest ≡ x ∷ left → (done ++ x ∷ []) ++ left ≡ whole
passed_one_more whole done rest left x so_far next = append_assoc done (x ∷ []) left ∙ (ap (λ more. done ++ more) (sym next) ∙ so_far)

-- none is left
pub passed_all : {X : Type 0} (whole done rest : List X) → done ++ rest ≡ whole → rest ≡ [] → done ≡ whole
passed_all whole done rest so_far none = sym (append-nil done) ∙ (ap (λ more. done ++ more) (sym none) ∙ so_far)

-- one more passed and became the last of a list, the items of which have one each
pub became_one_more : {X Y : Type 0} (of : Y → X) (whole rest left : List X) (done more : List Y) (x : X) (y : Y)
    → whole ≡ map of done ++ rest → rest ≡ x ∷ left → of y ≡ x → more ≡ done ++ y ∷ [] → whole ≡ map of more ++ left
became_one_more of whole rest left done more x y so_far next same pushed =
    let last : map of more ≡ map of done ++ x ∷ [] = ap (map of) pushed ∙ (map-append of done (y ∷ []) ∙ ap (λ z. map of done ++ z ∷ []) same) in
    sym (ap (λ front. front ++ left) last ∙ passed_one_more whole (map of done) rest left x (sym so_far) next)

-- so there are at most as many of those
pub at_most : {X Y : Type 0} (of : Y → X) (whole rest : List X) (done : List Y) → whole ≡ map of done ++ rest → length done ≤ length whole
at_most of whole rest done parts = omega (arith, ap length parts, length-append (map of done) rest, length-map done of)
