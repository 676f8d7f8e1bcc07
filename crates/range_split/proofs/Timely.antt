-- Times that a sort gives are the sorted ones.
use Rattle.std.proofs.Common.{◌≡◌, ℕ, suc, ◌+◌, ◌<◌, ◌≤◌, Bool, true, false, cond, List, [], ◌∷◌, length, get_or, refl, sym, ap, ap₂, ◌∙◌, is_gt, nat_cmp, arith}
use Rattle.std.specs.Prelude.{nat_lt}
use Rattle.std.specs.List.{AllByRecursion, sum_by}
use Rattle.std.specs.List.Sorted.{IsPermutation, IsSorted, IsNonDecreasingBy}
use Rattle.std.proofs.lemmas.Bool.{lt-ltb, le-ltb, ltb-true, ltb-false}
use Rattle.std.proofs.lemmas.Cmp.{nat_cmp_total}
use Rattle.std.proofs.lemmas.List.Sorted.{IsNonDecreasingBy-from_sort, sum_by-IsPermutation}
use Rattle.std.proofs.lemmas.List.Sums.{sum_by-cons}
use Rattle.range_split.specs.Quarters.{put, sorted}
use Rattle.range_split.proofs.Dividing.{one_if}
use Rattle.range_split.proofs.Sorting.{Rises, sorted_rises}

-- every sum over the one list is that over the other
abbrev SameSums : List ℕ → List ℕ → Type 0
SameSums xs ys = (f : ℕ → ℕ) → sum_by f xs ≡ sum_by f ys

put_sums : (x : ℕ) (ys : List ℕ) (f : ℕ → ℕ) → sum_by f (put nat_cmp x ys) ≡ f x + sum_by f ys
unfolding put
put_sums x [] f = sum_by-cons f x []
put_sums x (y ∷ ys) f = by_test (is_gt (nat_cmp x y)) (put_sums x ys f)
  where
    by_test : (b : Bool) → sum_by f (put nat_cmp x ys) ≡ f x + sum_by f ys → sum_by f (cond b (y ∷ put nat_cmp x ys) (x ∷ y ∷ ys)) ≡ f x + sum_by f (y ∷ ys)
    by_test true h = omega (arith, h, sum_by-cons f y (put nat_cmp x ys), sum_by-cons f y ys)
    by_test false h = sum_by-cons f x (y ∷ ys)

sorted_sums : (xs : List ℕ) → SameSums (sorted nat_cmp xs) xs
unfolding sorted
sorted_sums [] f = refl
sorted_sums (x ∷ xs) f = put_sums x (sorted nat_cmp xs) f ∙ omega (arith, sorted_sums xs f, sum_by-cons f x xs)

-- 1 below a number
abbrev under : ℕ → ℕ → ℕ
under y n = cond (nat_lt n y) 1 0

not_over : (x y : ℕ) → is_gt (nat_cmp x y) ≡ false → x ≤ y
not_over x y h = grind (arith, Rattle.std.proofs.lemmas.Bool.Decides.nat_tests)

none_under : (y : ℕ) (ys : List ℕ) → AllByRecursion (λ z. is_gt (nat_cmp y z) ≡ false) ys → sum_by (under y) ys ≡ 0
none_under y [] all = refl
none_under y (z ∷ ys) all =
    omega (arith, sum_by-cons (under y) z ys, none_under y ys all.1, ap (λ b. one_if b) (le-ltb z y (not_over y z all.0)))

first_not_under : (x y : ℕ) (xs ys : List ℕ) → SameSums (x ∷ xs) (y ∷ ys) → AllByRecursion (λ z. is_gt (nat_cmp y z) ≡ false) ys → y ≤ x
first_not_under x y xs ys same all = by_test (nat_lt x y) refl
  where
    by_test : (b : Bool) → nat_lt x y ≡ b → y ≤ x
    by_test true e =
        absurd (omega (arith, same (under y), sum_by-cons (under y) x xs, sum_by-cons (under y) y ys, none_under y ys all, ap (λ b. one_if b) e, ap (λ b. one_if b) (le-ltb y y (omega arith))))
    by_test false e = ltb-false x y e

no_sum : (y : ℕ) (ys : List ℕ) → SameSums [] (y ∷ ys) → ⊥
no_sum y ys same = omega (arith, same (λ n. 1), sum_by-cons (λ (n : ℕ). 1) y ys)

-- two rising lists with the same sums are one
pub one_order : (xs ys : List ℕ) → Rises nat_cmp xs → Rises nat_cmp ys → SameSums xs ys → xs ≡ ys
one_order [] [] up over same = refl
one_order [] (y ∷ ys) up over same = absurd (no_sum y ys same)
one_order (x ∷ xs) [] up over same = absurd (no_sum x xs (λ f. sym (same f)))
one_order (x ∷ xs) (y ∷ ys) up over same =
    let low = first_not_under x y xs ys same over.0 in
    let high = first_not_under y x ys xs (λ f. sym (same f)) up.0 in
    let e : x ≡ y = omega (arith, low, high) in
    let rest : SameSums xs ys = λ f. omega (arith, same f, sum_by-cons f x xs, sum_by-cons f y ys, ap f e) in
    ap₂ (λ n l. n ∷ l) e (one_order xs ys up.1 over.1 rest)

over_not : (x y : ℕ) → x ≤ y → is_gt (nat_cmp x y) ≡ false
over_not x y h = grind (arith, Rattle.std.proofs.lemmas.Bool.Decides.nat_tests)

all_at : (x : ℕ) (xs : List ℕ) → ((i : ℕ) → i < length xs → x ≤ get_or xs i x) → AllByRecursion (λ y. is_gt (nat_cmp x y) ≡ false) xs
all_at x [] h = tt
all_at x (y ∷ xs) h = (over_not x y (h 0 (omega arith)), all_at x xs (λ i lt. h (suc i) (omega (arith, lt))))

rises_by : (xs : List ℕ) → IsNonDecreasingBy (λ x. x) xs → Rises nat_cmp xs
rises_by [] h = tt
rises_by (x ∷ xs) h = (all_at x xs (λ i lt. h 0 (suc i) x (omega arith) (omega (arith, lt))), rises_by xs (λ i j d le lt. h (suc i) (suc j) d (omega (arith, le)) (omega (arith, lt))))

-- what a sort gives
pub sorted_is : (values xs : List ℕ) → IsPermutation values xs → IsSorted nat_cmp xs → sorted nat_cmp values ≡ xs
sorted_is values xs moved rise =
    one_order (sorted nat_cmp values) xs (sorted_rises nat_cmp nat_cmp_total values) (rises_by xs (IsNonDecreasingBy-from_sort (λ x. x) xs rise)) (λ f. sorted_sums values f ∙ sym (sum_by-IsPermutation f values xs moved))
