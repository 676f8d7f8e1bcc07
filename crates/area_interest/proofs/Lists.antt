-- Items of lists by their places, and how many are left of a list.
use Rattle.std.proofs.Common.{◌≡◌, ℕ, zero, suc, ◌≤◌, inl, inr, Bool, true, false, cond, List, [], ◌∷◌, ◌++◌, length, take, drop, filter, None, Some, refl, ap, ◌∙◌, arith, Ordering, Less, Equal, Greater}
use Rattle.std.specs.Prelude.{slice_get}
use Rattle.std.specs.Ordering.{match_ordering}
use Rattle.willow_entry.specs.Pruning.{placed, rising}
use Rattle.willow_entry.proofs.Members.{Member}

-- ---- the item at a place

pub drop_at : {A : Type 0} (xs : List A) (n : ℕ) (x : A) → slice_get xs n ≡ Some x → drop n xs ≡ x ∷ drop (suc n) xs
drop_at [] n x e = absurd cc
drop_at (y ∷ ys) zero x e = let same : y ≡ x = cc in ap (λ z. z ∷ ys) same
drop_at (y ∷ ys) (suc n) x e = drop_at ys n x e

pub take_at : {A : Type 0} (xs : List A) (n : ℕ) (x : A) → slice_get xs n ≡ Some x → take (suc n) xs ≡ take n xs ++ x ∷ []
take_at [] n x e = absurd cc
take_at (y ∷ ys) zero x e = let same : y ≡ x = cc in ap (λ z. z ∷ []) same
take_at (y ∷ ys) (suc n) x e = ap (λ l. y ∷ l) (take_at ys n x e)

pub none_behind : {A : Type 0} (xs : List A) (n : ℕ) → length xs ≤ n → drop n xs ≡ []
none_behind [] zero le = refl
none_behind [] (suc n) le = refl
none_behind (x ∷ xs) zero le = absurd (omega arith)
none_behind (x ∷ xs) (suc n) le = none_behind xs n (omega arith)

pub none_at : {A : Type 0} (xs : List A) (n : ℕ) → slice_get xs n ≡ None → length xs ≤ n
none_at [] n e = omega arith
none_at (x ∷ xs) zero e = absurd cc
none_at (x ∷ xs) (suc n) e = omega (arith, none_at xs n e)

-- what is taken of a list is of it
pub taken : {X : Type 0} (xs : List X) (k : ℕ) (s : X) → Member (take k xs) s → Member xs s
taken [] zero s m = absurd m
taken [] (suc k) s m = absurd m
taken (x ∷ xs) zero s m = absurd m
taken (x ∷ xs) (suc k) s (inl e) = inl e
taken (x ∷ xs) (suc k) s (inr m) = inr (taken xs k s m)

-- ---- no more are left than there were

module _ {X : Type 0} (cmp : X → X → Ordering) where
  few_placed : (x : X) (ys : List X) → length (placed cmp x ys) ≤ suc (length ys)
  few_placed x [] = omega arith
  few_placed x (y ∷ ys) = step (cmp x y) (few_placed x ys) where
    step : (o : Ordering) → length (placed cmp x ys) ≤ suc (length ys) → length (match_ordering o (x ∷ y ∷ ys) (y ∷ ys) (y ∷ placed cmp x ys)) ≤ suc (suc (length ys))
    step Less h = omega arith
    step Equal h = omega arith
    step Greater h = omega (arith, h)

  pub few_rising : (xs : List X) → length (rising cmp xs) ≤ length xs
  few_rising [] = omega arith
  few_rising (x ∷ xs) = omega (arith, few_placed x (rising cmp xs), few_rising xs)

pub few_filter : {X : Type 0} (p : X → Bool) (xs : List X) → length (filter p xs) ≤ length xs
few_filter p [] = omega arith
few_filter {X} p (x ∷ xs) = step (p x) (few_filter p xs) where
  step : (b : Bool) → length (filter p xs) ≤ length xs → length (cond b (x ∷ filter p xs) (filter p xs)) ≤ suc (length xs)
  step true h = omega (arith, h)
  step false h = omega (arith, h)

pub few_taken : {X : Type 0} (n : ℕ) (xs : List X) → length (take n xs) ≤ length xs
few_taken zero xs = omega arith
few_taken (suc n) [] = omega arith
few_taken (suc n) (x ∷ xs) = omega (arith, few_taken n xs)

pub few_first : {X : Type 0} (n : ℕ) (xs : List X) → length (take n xs) ≤ n
few_first zero xs = omega arith
few_first (suc n) [] = omega arith
few_first (suc n) (x ∷ xs) = omega (arith, few_first n xs)

-- where a test passes all, all are left
pub all_pass : {X : Type 0} (p : X → Bool) (xs : List X) → ((x : X) → Member xs x → p x ≡ true) → filter p xs ≡ xs
all_pass p [] h = refl
all_pass {X} p (x ∷ xs) h = ap (λ b. cond b (x ∷ filter p xs) (filter p xs)) (h x (inl refl)) ∙ ap (λ l. x ∷ l) (all_pass p xs (λ z m. h z (inr m)))
