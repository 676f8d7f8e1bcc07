-- Rows of a list, counted by a test.
use Rattle.std.proofs.Common.{◌≡◌, ℕ, suc, ◌+◌, ◌≤◌, Bool, true, false, cond, List, [], ◌∷◌, ◌++◌, map, get_or, filter, count_by, Contains, inl, inr, refl, ap, ◌∙◌, arith}
use Rattle.std.specs.List.{list_any, AllByRecursion}
use Rattle.std.proofs.lemmas.Bool.{false≢true, or_cases}
use Rattle.std.proofs.lemmas.List.Sums.{sum_by-cons, get_or-le-sum_by}
use Rattle.exchange_rules.proofs.Sums.{count_kept}

kept_whole : (b c : Bool) → (b ≡ true → c ≡ true) → ◌≡◌ {A = ℕ} (cond c (cond b 1 0) 0) (cond b 1 0)
kept_whole true true h = refl
kept_whole true false h = absurd (false≢true (h refl))
kept_whole false true h = refl
kept_whole false false h = refl

-- a filter that keeps all that pass loses none of them
pub count_by-filter : {S : Type 0} (q p : S → Bool) → ((s : S) → q s ≡ true → p s ≡ true) → (rows : List S) → count_by q (filter p rows) ≡ count_by q rows
count_by-filter q p keeps [] = refl
count_by-filter q p keeps (s ∷ rows) =
    omega (arith, count_kept q s (filter p rows) (p s), kept_whole (q s) (p s) (keeps s), sum_by-cons (λ r. cond (q r) 1 0) s rows, count_by-filter q p keeps rows)

-- a test passes at one or none
one_where : (b : Bool) → b ≡ true → 1 ≤ cond b 1 0
one_where true e = omega arith
one_where false e = absurd (false≢true e)

-- a row that stands in the list is counted, where it passes
pub contains_counted : {S : Type 0} (q : S → Bool) (rows : List S) (r : S) → q r ≡ true → Contains rows r → 1 ≤ count_by q rows
contains_counted q rows r passes c =
    omega (arith, get_or-le-sum_by (λ s. cond (q s) 1 0) rows c.0 r c.1, one_where (q (get_or rows c.0 r)) (ap q c.2 ∙ passes))

-- a row that is counted stands in the list, where it alone passes
pub counted_contains : {S : Type 0} (q : S → Bool) (r : S) → ((s : S) → q s ≡ true → s ≡ r) → (rows : List S) → 1 ≤ count_by q rows → Contains rows r
counted_contains q r alone [] h = absurd (omega arith)
counted_contains {S} q r alone (s ∷ rows) h =
    let n = sum_by-cons (λ t. cond (q t) 1 0) s rows in
    let P : Bool → Type 0 = λ b. q s ≡ b → count_by q (s ∷ rows) ≡ cond b 1 0 + count_by q rows → Contains (s ∷ rows) r in
    let both : (b : Bool) → P b = elim [
      | true ↦ λ e k. (0, omega arith, alone s e)
      | false ↦ λ e k. (let c = counted_contains q r alone rows (omega (arith, h, k)) in (suc c.0, omega (arith, c.1), c.2))
    ] in
    both (q s) refl n

-- what a test finds is counted, where that passes
pub any_counted : {S : Type 0} (p q : S → Bool) → ((s : S) → p s ≡ true → q s ≡ true) → (rows : List S) → list_any p rows ≡ true → 1 ≤ count_by q rows
any_counted p q passes [] e = absurd (false≢true e)
any_counted p q passes (s ∷ rows) e =
    elim (or_cases (p s) (list_any p rows) e) [
      | inl f ↦ omega (arith, one_where (q s) (passes s f), sum_by-cons (λ t. cond (q t) 1 0) s rows)
      | inr f ↦ omega (arith, any_counted p q passes rows f, sum_by-cons (λ t. cond (q t) 1 0) s rows)
    ]

-- ---- what holds of each item

pub all-append : {A : Type 0} (P : A → Type 0) (xs ys : List A) → AllByRecursion P xs → AllByRecursion P ys → AllByRecursion P (xs ++ ys)
all-append P [] ys h k = k
all-append P (x ∷ xs) ys h k = (h.0, all-append P xs ys h.1 k)

pub all_front : {A : Type 0} (P : A → Type 0) (xs ys : List A) → AllByRecursion P (xs ++ ys) → AllByRecursion P xs
all_front P [] ys h = tt
all_front P (x ∷ xs) ys h = (h.0, all_front P xs ys h.1)

pub all_back : {A : Type 0} (P : A → Type 0) (xs ys : List A) → AllByRecursion P (xs ++ ys) → AllByRecursion P ys
all_back P [] ys h = h
all_back P (x ∷ xs) ys h = all_back P xs ys h.1

pub all-map : {A B : Type 0} (P : B → Type 0) (f : A → B) → ((x : A) → P (f x)) → (xs : List A) → AllByRecursion P (map f xs)
all-map P f h [] = tt
all-map P f h (x ∷ xs) = (h x, all-map P f h xs)

pub all_weaker : {A : Type 0} (P Q : A → Type 0) → ((x : A) → P x → Q x) → (xs : List A) → AllByRecursion P xs → AllByRecursion Q xs
all_weaker P Q h [] k = tt
all_weaker P Q h (x ∷ xs) k = (h x k.0, all_weaker P Q h xs k.1)
