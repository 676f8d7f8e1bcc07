-- Prefixes of one list.
use Rattle.std.proofs.Common.{◌≡◌, zero, ◌≤◌, List, [], ◌∷◌, ◌++◌, length, drop, sym, refl, ap, ap₂, ◌∙◌, arith, append_assoc, append-nil, length-append}
use mathlib.Core.List.{IsPrefix}
use mathlib.Core.Option.{some-injective}
use lib.ListN.{get_elem?}

module _ {A : Type 0} where
  pub empty_from_length : (xs : List A) → length xs ≡ 0 → xs ≡ []
  empty_from_length [] e = refl
  empty_from_length (x ∷ xs) e = absurd (omega arith)

  pub prefix_self : (xs : List A) → IsPrefix xs xs
  prefix_self xs = ([], append-nil xs)

  pub prefix_trans : (xs ys zs : List A) → IsPrefix xs ys → IsPrefix ys zs → IsPrefix xs zs
  prefix_trans xs ys zs a b = (a.0 ++ b.0, sym (append_assoc xs a.0 b.0) ∙ (ap (λ l. l ++ b.0) a.1 ∙ b.1))

  pub prefix_more : (xs ys more : List A) → IsPrefix xs ys → IsPrefix xs (ys ++ more)
  prefix_more xs ys more a = prefix_trans xs ys (ys ++ more) a (more, refl)

  pub prefix_length : (xs ys : List A) → IsPrefix xs ys → length xs ≤ length ys
  prefix_length xs ys a = omega (arith, length-append xs a.0, ap length a.1)

  -- a prefix as long as the whole is the whole
  pub prefix_whole : (xs ys : List A) → IsPrefix xs ys → length ys ≤ length xs → xs ≡ ys
  prefix_whole xs ys a le =
      let none : a.0 ≡ [] = empty_from_length a.0 (omega (arith, length-append xs a.0, ap length a.1)) in
      sym (append-nil xs) ∙ (ap (λ l. xs ++ l) (sym none) ∙ a.1)

  -- of two prefixes of one list the shorter is a prefix of the longer
  pub prefix_shorter : (xs ys zs : List A) → IsPrefix xs zs → IsPrefix ys zs → length xs ≤ length ys → IsPrefix xs ys
  prefix_shorter [] ys zs a b le = (ys, refl)
  prefix_shorter (x ∷ xs) [] zs a b le = absurd (omega arith)
  prefix_shorter (x ∷ xs) (y ∷ ys) zs a b le =
      let same : x ∷ (xs ++ a.0) ≡ y ∷ (ys ++ b.0) = a.1 ∙ sym b.1 in
      let heads = some-injective x y (ap (λ l. get_elem? l zero) same) in
      let tails : xs ++ a.0 ≡ ys ++ b.0 = ap (λ l. drop 1 l) same in
      let rest = prefix_shorter xs ys (ys ++ b.0) (a.0, tails) (b.0, refl) (omega arith) in
      (rest.0, ap₂ (λ u l. u ∷ l) heads rest.1)

  pub drop-prefix : (xs more : List A) → drop (length xs) (xs ++ more) ≡ more
  drop-prefix [] more = refl
  drop-prefix (x ∷ xs) more = drop-prefix xs more
