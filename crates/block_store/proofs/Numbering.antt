-- The positions of the items that pass a test number these items.
use Rattle.std.proofs.Common.{◌≡◌, ℕ, ◌+◌, ◌<◌, ◌≤◌, ◌↔◌, Bool, true, false, cond, List, [], ◌∷◌, ◌++◌, length, map, filter, Option, Some, None, slice_get, inl, inr, sym, refl, ap, ap₂, ◌∙◌, append_assoc, nat_cmp, arith}
use Rattle.std.specs.List.{AllByRecursion}
use Rattle.std.specs.List.Sorted.{IsStrictlySortedBy}
use Rattle.std.specs.Cmp.{nat_cmp_is}
use Rattle.std.specs.Option.{option_map}
use Rattle.std.specs.declared.cmp.Ordering.TheVariants.{Less}
use Rattle.std.proofs.lemmas.List.{length-append, length-map}
use Rattle.std.proofs.lemmas.Option.{slice_get-map, slice_get_past, slice_get_cases}
use Rattle.block_store.specs.Positions.{positions_from, positions}

some_within : {X : Type 0} (a b : Option X) → Some a ≡ option_map (λ x. Some x) b → a ≡ b
some_within a (Some x) e = cc
some_within a None e = absurd cc

module _ {X : Type 0} where
  pub seam : (front : List X) (x : X) (rest : List X) → slice_get (front ++ x ∷ rest) (length front) ≡ Some x
  seam [] x rest = refl
  seam (y ∷ front) x rest = seam front x rest

module _ {X : Type 0} (test : X → Bool) where
  items_behind : (front xs : List X) → map (slice_get (front ++ xs)) (positions_from test (length front) xs) ≡ map (λ x. Some x) (filter test xs)
  items_behind front [] = refl
  items_behind front (x ∷ xs) =
      let all = front ++ x ∷ xs in
      let later = positions_from test (length front + 1) xs in
      let long : length (front ++ x ∷ []) ≡ length front + 1 = omega (arith, length-append front (x ∷ [])) in
      let rest : map (slice_get all) later ≡ map (λ y. Some y) (filter test xs) =
      ap₂ (λ l n. map (slice_get l) (positions_from test n xs)) (sym (append_assoc front (x ∷ []) xs)) (sym long) ∙ items_behind (front ++ x ∷ []) xs in
      let P : Bool → Type 0 = λ b. map (slice_get all) (cond b (length front ∷ later) later) ≡ map (λ y. Some y) (cond b (x ∷ filter test xs) (filter test xs)) in
      let each : (b : Bool) → P b = elim [ true ↦ ap₂ (λ y ys. y ∷ ys) (seam front x xs) rest | false ↦ rest ] in
      each (test x)

  pub rows_there : (xs : List X) → map (slice_get xs) (positions test xs) ≡ map (λ x. Some x) (filter test xs)
  rows_there xs = items_behind [] xs

  pub row_there : (xs : List X) (n at : ℕ) → slice_get (positions test xs) n ≡ Some at → slice_get xs at ≡ slice_get (filter test xs) n
  row_there xs n at h =
      some_within (slice_get xs at) (slice_get (filter test xs) n)
      (ap (option_map (slice_get xs)) (sym h) ∙ sym (slice_get-map (slice_get xs) (positions test xs) n)
      ∙ ap (λ l. slice_get l n) (rows_there xs) ∙ slice_get-map (λ x. Some x) (filter test xs) n)

  pub so_many : (xs : List X) → length (positions test xs) ≡ length (filter test xs)
  so_many xs = omega (
    arith,
    length-map (positions test xs) (slice_get xs),
    length-map (filter test xs) (λ x. Some x),
    ap length (rows_there xs),
  )

  pub none_there : (xs : List X) (n : ℕ) → (slice_get (positions test xs) n ≡ None) ↔ (length (filter test xs) ≤ n)
  none_there xs n = (
    (λ h. elim (slice_get_cases (positions test xs) n).1 [ inl w ↦ absurd (cc (h, w.2)) | inr w ↦ omega (arith, w.0, so_many xs) ]),
    (λ h. slice_get_past (positions test xs) n (omega (arith, so_many xs))),
  )

  rise_behind : (low at : ℕ) (xs : List X) → low < at → AllByRecursion (λ y. nat_cmp low y ≡ Less) (positions_from test at xs)
  rise_behind low at [] h = tt
  rise_behind low at (x ∷ xs) h =
      let rest = rise_behind low (at + 1) xs (omega arith) in
      let P : Bool → Type 0 = λ b. AllByRecursion (λ y. nat_cmp low y ≡ Less) (cond b (at ∷ positions_from test (at + 1) xs) (positions_from test (at + 1) xs)) in
      let each : (b : Bool) → P b = elim [ true ↦ (sym (nat_cmp_is low at Less h), rest) | false ↦ rest ] in
      each (test x)

  rise_from : (at : ℕ) (xs : List X) → IsStrictlySortedBy nat_cmp (positions_from test at xs)
  unfolding IsStrictlySortedBy
  rise_from at [] = tt
  rise_from at (x ∷ xs) =
      let rest = rise_from (at + 1) xs in
      let P : Bool → Type 0 = λ b. IsStrictlySortedBy nat_cmp (cond b (at ∷ positions_from test (at + 1) xs) (positions_from test (at + 1) xs)) in
      let each : (b : Bool) → P b = elim [ true ↦ (rise_behind at (at + 1) xs (omega arith), rest) | false ↦ rest ] in
      each (test x)

  pub positions_rise : (xs : List X) → IsStrictlySortedBy nat_cmp (positions test xs)
  positions_rise xs = rise_from 0 xs
