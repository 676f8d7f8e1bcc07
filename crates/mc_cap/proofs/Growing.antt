-- A text that counts its items in one byte and grows by one item at a time.
use Rattle.std.proofs.Common.{◌≡◌, ℕ, ◌+◌, ◌-◌, ◌<◌, List, [], ◌∷◌, ◌++◌, length, take, set, get_or, slice_get, Some, sym, ap, subst, ◌∙◌, append_assoc, add-one, arith}
use Rattle.std.specs.List.{flat_map, AllByRecursion}
use Rattle.spelling.proofs.Lists.{All-append}
use Rattle.std.proofs.lemmas.List.{append-nil, get_or-take, length-take}
use Rattle.std.proofs.lemmas.Grind.{flat_map-append}
use Rattle.std.proofs.lemmas.Option.{slice_get-get_or}
use Rattle.std.proofs.Math.Seq.{take-suc, set-append_seam}

-- the first k + 1 items
pub taken_on : {X : Type 0} (xs : List X) (k : ℕ) (d : X) → k < length xs → take (k + 1) xs ≡ take k xs ++ get_or xs k d ∷ []
taken_on xs k d lt = ap (λ (n : ℕ). take n xs) (add-one k) ∙ take-suc xs k d lt

-- the last of them
pub last_taken : {X : Type 0} (xs : List X) (k : ℕ) (d : X) → k < length xs → slice_get (take (k + 1) xs) (length (take (k + 1) xs) - 1) ≡ Some (get_or xs k d)
last_taken {X} xs k d lt =
    let long : length (take (k + 1) xs) - 1 ≡ k = omega (arith, length-take (k + 1) xs, lt) in
    let within : k < length (take (k + 1) xs) = omega (arith, length-take (k + 1) xs, lt) in
    ap (λ (n : ℕ). slice_get (take (k + 1) xs) n) long ∙ slice_get-get_or (take (k + 1) xs) k d within ∙ ap (λ (x : X). Some x) (get_or-take (k + 1) xs k d (omega arith))

flat_map_on : {X : Type 0} (f : X → List ℕ) (xs : List X) (k : ℕ) (d : X) → k < length xs → flat_map f (take k xs) ++ f (get_or xs k d) ≡ flat_map f (take (k + 1) xs)
flat_map_on f xs k d lt =
    ap (λ (l : List ℕ). flat_map f (take k xs) ++ l) (sym (append-nil (f (get_or xs k d))))
    ∙ sym (flat_map-append f (take k xs) (get_or xs k d ∷ []))
    ∙ ap (flat_map f) (sym (taken_on xs k d lt))

-- one item more at the end, and the byte that counts them
pub grown : {X : Type 0} (f : X → List ℕ) (front : List ℕ) (b n place : ℕ) (xs : List X) (k : ℕ) (d : X) → place ≡ length front → k < length xs
    → set ((front ++ b ∷ flat_map f (take k xs)) ++ f (get_or xs k d)) place n ≡ front ++ n ∷ flat_map f (take (k + 1) xs)
grown f front b n place xs k d at lt =
    ap (λ (l : List ℕ). set l place n) (append_assoc front (b ∷ flat_map f (take k xs)) (f (get_or xs k d)))
    ∙ ap (λ (l : List ℕ). set (front ++ b ∷ l) place n) (flat_map_on f xs k d lt)
    ∙ ap (λ (i : ℕ). set (front ++ b ∷ flat_map f (take (k + 1) xs)) i n) at
    ∙ set-append_seam front b (flat_map f (take (k + 1) xs)) n

-- one more of those that fit
pub all_on : {X : Type 0} (P : X → Type 0) (items xs : List X) (k : ℕ) (x : X) → items ≡ xs → k < length items → x ≡ get_or items k x → AllByRecursion P (take k xs) → P x → AllByRecursion P (take (k + 1) xs)
all_on P items xs k x same lt is all fits =
    let within : k < length xs = omega (arith, lt, ap length same) in
    let it : x ≡ get_or xs k x = is ∙ ap (λ (l : List _). get_or l k x) same in
    subst (AllByRecursion P) (sym (taken_on xs k x within)) (All-append P (take k xs) (get_or xs k x ∷ []) all (subst P it fits, tt))
