-- Steps on lists.
use Rattle.std.proofs.Common.{◌≡◌, suc, ◌+◌, ◌≤◌, List, [], ◌∷◌, map, length, filter_map, Option, Some, None, refl, ap, ap₂, arith}
use Rattle.std.specs.List.{cons_option}
use Rattle.std.proofs.lemmas.List.{length-map}

-- ---- values that are there

pub told_items : {X Y : Type 0} (h : X → Option Y) (xs : List X) (ys : List Y) → map h xs ≡ map Some ys → filter_map h xs ≡ ys
told_items h [] [] e = refl
told_items h [] (y ∷ ys) e = absurd cc
told_items h (x ∷ xs) [] e = absurd cc
told_items h (x ∷ xs) (y ∷ ys) e =
    let first : h x ≡ Some y = cc in
    let rest : map h xs ≡ map Some ys = cc in
    ap₂ cons_option first (told_items h xs ys rest)

pub length-cons_option-le : {X : Type 0} (o : Option X) (xs : List X) → length (cons_option o xs) ≤ length xs + 1
length-cons_option-le None xs = omega arith
length-cons_option-le (Some x) xs = omega arith

pub length-filter_map-le : {X Y : Type 0} (h : X → Option Y) (xs : List X) → length (filter_map h xs) ≤ length xs
length-filter_map-le h [] = omega arith
length-filter_map-le h (x ∷ xs) = omega (arith, length-cons_option-le (h x) (filter_map h xs), length-filter_map-le h xs)

-- a value is there at the first of some items, where one is at each
pub record HasFirst {X Y : Type 0} (h : X → Option Y) (x : X) (xs : List X) : Type 0 where
  pub value : Y
  pub here : h x ≡ Some value
  pub rest : map h xs ≡ map Some (filter_map h xs)

has_first_by : {X Y : Type 0} (h : X → Option Y) (x : X) (xs : List X) (o : Option Y) → h x ≡ o → o ∷ map h xs ≡ map Some (cons_option o (filter_map h xs)) → HasFirst h x xs
has_first_by {X} {Y} h x xs None e all =
    let some : suc (length (map h xs)) ≡ length (map {B = Option Y} Some (filter_map h xs)) = ap length all in
    absurd (omega (arith, length-filter_map-le h xs, length-map xs h, length-map (filter_map h xs) (λ (y : Y). Some y)))
has_first_by h x xs (Some y) e all = record { value = y; here = e; rest = (cc) }

pub has_first : {X Y : Type 0} (h : X → Option Y) (x : X) (xs : List X) → map h (x ∷ xs) ≡ map Some (filter_map h (x ∷ xs)) → HasFirst h x xs
has_first h x xs all = has_first_by h x xs (h x) refl all
