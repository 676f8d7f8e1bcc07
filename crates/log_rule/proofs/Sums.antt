-- Sums over a list, and what a change of one item does to them.
use Rattle.std.proofs.Common.{◌≡◌, ◌≢◌, ℕ, zero, suc, ◌+◌, ◌<◌, ◌≤◌, Bool, true, false, cond, eqb, List, [], ◌∷◌, length, set, sum_by, sym, refl, ap, arith, eq-eqb, ne_eqb}
use Rattle.std.proofs.lemmas.List.Sums.{sum_by-cons}
use mathlib.Core.Logic.{dite}
use mathlib.Core.Option.{some, some-injective, some-ne-none}
use native.Mathlib.Decide.{ℕ_discrete}
use lib.ListN.{get_elem?}

-- ---- what one item counts

abbrev pub one_if : Bool → ℕ
one_if b = cond b 1 0

pub one_here : (a b : ℕ) → a ≡ b → one_if (eqb a b) ≡ 1
one_here a b e = ap one_if (eq-eqb a b e)

pub none_here : (a b : ℕ) → a ≢ b → one_if (eqb a b) ≡ 0
none_here a b n = ap one_if (ne_eqb a b n)

pub one_at_most : (b : Bool) → one_if b ≤ 1
one_at_most true = omega arith
one_at_most false = omega arith

pub apart : (a b : ℕ) → one_if (eqb a b) ≡ 0 → a ≢ b
apart a b none e = let h = one_here a b e in absurd (omega arith)

pub equal : (a b : ℕ) → 0 < one_if (eqb a b) → a ≡ b
equal a b counted = dite (ℕ_discrete a b) (λ e. e) (λ n. let h = none_here a b n in absurd (omega arith))

-- ---- an item that stands at a place

module _ {A : Type 0} where
  pub within : (xs : List A) (i : ℕ) (v : A) → get_elem? xs i ≡ some v → i < length xs
  within [] i v at = absurd (some-ne-none v (sym at))
  within (x ∷ xs) zero v at = omega arith
  within (x ∷ xs) (suc i) v at = let h = within xs i v at in omega arith

module _ {A : Type 0} (f : A → ℕ) where
  pub sum_by-set_at : (xs : List A) (i : ℕ) (v w : A) → get_elem? xs i ≡ some v → sum_by f (set xs i w) + f v ≡ sum_by f xs + f w
  sum_by-set_at [] i v w at = absurd (some-ne-none v (sym at))
  sum_by-set_at (x ∷ xs) zero v w at = let e = ap f (some-injective x v at) in omega (arith, sum_by-cons f x xs, sum_by-cons f w xs)
  sum_by-set_at (x ∷ xs) (suc i) v w at = let h = sum_by-set_at xs i v w at in omega (arith, sum_by-cons f x xs, sum_by-cons f x (set xs i w))

  pub sum_by-at_le : (xs : List A) (i : ℕ) (v : A) → get_elem? xs i ≡ some v → f v ≤ sum_by f xs
  sum_by-at_le [] i v at = absurd (some-ne-none v (sym at))
  sum_by-at_le (x ∷ xs) zero v at = let e = ap f (some-injective x v at) in omega (arith, sum_by-cons f x xs)
  sum_by-at_le (x ∷ xs) (suc i) v at = let h = sum_by-at_le xs i v at in omega (arith, sum_by-cons f x xs)

  -- two items
  pub sum_by-two_le : (xs : List A) (i j : ℕ) (v w : A) → i ≢ j → get_elem? xs i ≡ some v → get_elem? xs j ≡ some w → f v + f w ≤ sum_by f xs
  sum_by-two_le [] i j v w n a b = absurd (some-ne-none v (sym a))
  sum_by-two_le (x ∷ xs) zero zero v w n a b = absurd (n refl)
  sum_by-two_le (x ∷ xs) zero (suc j) v w n a b = let e = ap f (some-injective x v a) in let h = sum_by-at_le xs j w b in omega (arith, sum_by-cons f x xs)
  sum_by-two_le (x ∷ xs) (suc i) zero v w n a b = let e = ap f (some-injective x w b) in let h = sum_by-at_le xs i v a in omega (arith, sum_by-cons f x xs)
  sum_by-two_le (x ∷ xs) (suc i) (suc j) v w n a b = let h = sum_by-two_le xs i j v w (λ e. n (ap suc e)) a b in omega (arith, sum_by-cons f x xs)

-- ---- two sums

module _ {A : Type 0} (f g : A → ℕ) where
  pub sum_by-le_sum_by : (xs : List A) → ((i : ℕ) (v : A) → get_elem? xs i ≡ some v → f v ≤ g v) → sum_by f xs ≤ sum_by g xs
  sum_by-le_sum_by [] h = omega arith
  sum_by-le_sum_by (x ∷ xs) h = let a = h zero x refl in let b = sum_by-le_sum_by xs (λ i v at. h (suc i) v at) in omega (arith, sum_by-cons f x xs, sum_by-cons g x xs)

  pub sum_by-lt_sum_by : (xs : List A) (k : ℕ) (u : A) → get_elem? xs k ≡ some u → f u < g u → ((i : ℕ) (v : A) → get_elem? xs i ≡ some v → f v ≤ g v) → sum_by f xs < sum_by g xs
  sum_by-lt_sum_by [] k u at l h = absurd (some-ne-none u (sym at))
  sum_by-lt_sum_by (x ∷ xs) zero u at l h =
      let e = some-injective x u at in let a = ap f e in let c = ap g e in
      let b = sum_by-le_sum_by xs (λ i v at. h (suc i) v at) in omega (arith, sum_by-cons f x xs, sum_by-cons g x xs)
  sum_by-lt_sum_by (x ∷ xs) (suc k) u at l h = let a = h zero x refl in let b = sum_by-lt_sum_by xs k u at l (λ i v at. h (suc i) v at) in omega (arith, sum_by-cons f x xs, sum_by-cons g x xs)

  none : (xs : List A) → sum_by g xs ≡ 0 → ((i : ℕ) (v : A) → get_elem? xs i ≡ some v → g v ≡ 0 → f v ≡ 0) → sum_by f xs ≡ 0
  none [] e h = refl
  none (x ∷ xs) e h =
      let split = sum_by-cons g x xs in
      let a = h zero x refl (omega arith) in let b = none xs (omega arith) (λ i v at. h (suc i) v at) in omega (arith, sum_by-cons f x xs)

  -- where one item has all that g sums up, it has all that f sums up
  pub sum_by-alone : (xs : List A) (k : ℕ) (u : A) → get_elem? xs k ≡ some u → sum_by g xs ≡ g u → ((i : ℕ) (v : A) → get_elem? xs i ≡ some v → g v ≡ 0 → f v ≡ 0) → sum_by f xs ≡ f u
  sum_by-alone [] k u at e h = absurd (some-ne-none u (sym at))
  sum_by-alone (x ∷ xs) zero u at e h =
      let q = some-injective x u at in let a = ap f q in let c = ap g q in let split = sum_by-cons g x xs in
      let b = none xs (omega arith) (λ i v at. h (suc i) v at) in omega (arith, sum_by-cons f x xs)
  sum_by-alone (x ∷ xs) (suc k) u at e h =
      let l = sum_by-at_le g xs k u at in let split = sum_by-cons g x xs in
      let a = h zero x refl (omega arith) in let b = sum_by-alone xs k u at (omega arith) (λ i v at. h (suc i) v at) in omega (arith, sum_by-cons f x xs)
