-- Sums over lists, and over the parts of a box.
use Rattle.std.proofs.Common.{◌≡◌, ℕ, ◌+◌, ◌≤◌, Bool, true, false, cond, List, [], ◌∷◌, map, length, filter, sum_by, count_by, flat_map, refl, arith}
use Rattle.std.proofs.lemmas.List.Sums.{sum_by-cons, sum_by-append}

pub sum_by-flat_map : {A B : Type 0} (w : B → ℕ) (f : A → List B) (xs : List A) → sum_by w (flat_map f xs) ≡ sum_by (λ x. sum_by w (f x)) xs
sum_by-flat_map w f [] = refl
sum_by-flat_map w f (x ∷ xs) = omega (arith, sum_by-append w (f x) (flat_map f xs), sum_by-cons (λ y. sum_by w (f y)) x xs, sum_by-flat_map w f xs)

pub sum_by-map : {A B : Type 0} (w : B → ℕ) (f : A → B) (xs : List A) → sum_by w (map f xs) ≡ sum_by (λ x. w (f x)) xs
sum_by-map w f [] = refl
sum_by-map w f (x ∷ xs) = omega (arith, sum_by-cons w (f x) (map f xs), sum_by-cons (λ y. w (f y)) x xs, sum_by-map w f xs)

pub sum_by-zero : {A : Type 0} (xs : List A) → sum_by (λ x. 0) xs ≡ 0
sum_by-zero [] = refl
sum_by-zero (x ∷ xs) = omega (arith, sum_by-cons (λ y. 0) x xs, sum_by-zero xs)

pub sum_by-one : {A : Type 0} (xs : List A) → sum_by (λ x. 1) xs ≡ length xs
sum_by-one [] = refl
sum_by-one (x ∷ xs) = omega (arith, sum_by-cons (λ y. 1) x xs, sum_by-one xs)

pub sum_by-add : {A : Type 0} (f h : A → ℕ) (xs : List A) → sum_by (λ x. f x + h x) xs ≡ sum_by f xs + sum_by h xs
sum_by-add f h [] = refl
sum_by-add f h (x ∷ xs) = omega (arith, sum_by-cons (λ y. f y + h y) x xs, sum_by-cons f x xs, sum_by-cons h x xs, sum_by-add f h xs)

pub sum_by_same : {A : Type 0} (f h : A → ℕ) → ((x : A) → f x ≡ h x) → (xs : List A) → sum_by f xs ≡ sum_by h xs
sum_by_same f h e [] = refl
sum_by_same f h e (x ∷ xs) = omega (arith, sum_by-cons f x xs, sum_by-cons h x xs, e x, sum_by_same f h e xs)

-- ---- rows of a list that pass a test, in boxes

cond_zero : (b : Bool) → ◌≡◌ {A = ℕ} (cond b 0 0) 0
cond_zero true = refl
cond_zero false = refl

pub count_kept : {S : Type 0} (q : S → Bool) (s : S) (kept : List S) (b : Bool) → count_by q (cond b (s ∷ kept) kept) ≡ cond b (cond (q s) 1 0) 0 + count_by q kept
count_kept q s kept true = sum_by-cons (λ r. cond (q r) 1 0) s kept
count_kept q s kept false = omega arith

count_in_parts : {X S : Type 0} (has : X → S → Bool) (s : S) (b : Bool) (ys : List X) → sum_by (λ y. cond (has y s) (cond b 1 0) 0) ys ≡ cond b (count_by (λ y. has y s) ys) 0
count_in_parts has s true ys = refl
count_in_parts has s false [] = refl
count_in_parts has s false (y ∷ ys) = omega (arith, sum_by-cons (λ z. cond (has z s) 0 0) y ys, cond_zero (has y s), count_in_parts has s false ys)

-- what one more row adds in all parts
count_parts-cons : {X S : Type 0} (has : X → S → Bool) (q : S → Bool) (s : S) (rows : List S) (ys : List X) →
    sum_by (λ y. count_by q (filter (has y) (s ∷ rows))) ys ≡ cond (q s) (count_by (λ y. has y s) ys) 0 + sum_by (λ y. count_by q (filter (has y) rows)) ys
count_parts-cons has q s rows ys =
    let each = sum_by_same (λ y. count_by q (filter (has y) (s ∷ rows))) (λ y. cond (has y s) (cond (q s) 1 0) 0 + count_by q (filter (has y) rows)) (λ y. count_kept q s (filter (has y) rows) (has y s)) ys in
    let both = sum_by-add (λ y. cond (has y s) (cond (q s) 1 0) 0) (λ y. count_by q (filter (has y) rows)) ys in
    omega (arith, each, both, count_in_parts has s (q s) ys)

at_most : (b c : Bool) (n : ℕ) → n ≤ cond c 1 0 → cond b n 0 ≤ cond c (cond b 1 0) 0
at_most true true n h = h
at_most true false n h = h
at_most false true n h = omega arith
at_most false false n h = omega arith

at_least : (b c : Bool) (n : ℕ) → cond c 1 0 ≤ n → cond c (cond b 1 0) 0 ≤ cond b n 0
at_least true true n h = h
at_least true false n h = h
at_least false true n h = omega arith
at_least false false n h = omega arith

-- where each row is in one part at most, the parts have no more rows than the box
pub parts_within : {X S : Type 0} (has : X → S → Bool) (x : X) (ys : List X) → ((s : S) → count_by (λ y. has y s) ys ≤ cond (has x s) 1 0)
    → (q : S → Bool) (rows : List S) → sum_by (λ y. count_by q (filter (has y) rows)) ys ≤ count_by q (filter (has x) rows)
parts_within has x ys one q [] = omega (arith, sum_by-zero ys)
parts_within has x ys one q (s ∷ rows) =
    let more = count_parts-cons has q s rows ys in
    let kept = count_kept q s (filter (has x) rows) (has x s) in
    let head = at_most (q s) (has x s) (count_by (λ y. has y s) ys) (one s) in
    omega (arith, more, kept, head, parts_within has x ys one q rows)

-- where each row is in a part, they have no fewer
pub parts_cover : {X S : Type 0} (has : X → S → Bool) (x : X) (ys : List X) → ((s : S) → cond (has x s) 1 0 ≤ count_by (λ y. has y s) ys)
    → (q : S → Bool) (rows : List S) → count_by q (filter (has x) rows) ≤ sum_by (λ y. count_by q (filter (has y) rows)) ys
parts_cover has x ys one q [] = omega arith
parts_cover has x ys one q (s ∷ rows) =
    let more = count_parts-cons has q s rows ys in
    let kept = count_kept q s (filter (has x) rows) (has x s) in
    let head = at_least (q s) (has x s) (count_by (λ y. has y s) ys) (one s) in
    omega (arith, more, kept, head, parts_cover has x ys one q rows)

-- each is counted
pub count_all : {S : Type 0} (rows : List S) → length rows ≡ count_by (λ s. true) rows
count_all rows = omega (arith, sum_by-one rows)

-- the same of all rows
pub length_parts_within : {X S : Type 0} (has : X → S → Bool) (x : X) (ys : List X) → ((s : S) → count_by (λ y. has y s) ys ≤ cond (has x s) 1 0)
    → (rows : List S) → sum_by (λ y. length (filter (has y) rows)) ys ≤ length (filter (has x) rows)
length_parts_within has x ys one rows =
    let each = sum_by_same (λ y. length (filter (has y) rows)) (λ y. count_by (λ s. true) (filter (has y) rows)) (λ y. count_all (filter (has y) rows)) ys in
    omega (arith, each, count_all (filter (has x) rows), parts_within has x ys one (λ s. true) rows)

-- a filter keeps no more
pub count_by-filter-le : {S : Type 0} (q p : S → Bool) (rows : List S) → count_by q (filter p rows) ≤ count_by q rows
count_by-filter-le q p [] = omega arith
count_by-filter-le q p (s ∷ rows) =
    let kept = count_kept q s (filter p rows) (p s) in
    omega (arith, kept, kept_at_most (p s) (q s), sum_by-cons (λ r. cond (q r) 1 0) s rows, count_by-filter-le q p rows)
  where
    kept_at_most : (b c : Bool) → cond b (cond c 1 0) 0 ≤ cond c 1 0
    kept_at_most true c = omega arith
    kept_at_most false c = omega arith
