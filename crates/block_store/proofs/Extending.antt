-- What stands below a row or extends it ends where the run of its extensions ends.
use Rattle.std.proofs.Common.{◌≡◌, inl, inr, ℕ, zero, suc, ◌≤◌, Bool, true, false, ◌||◌, List, [], ◌∷◌, length, take, drop, get_or, sym, refl, ap, ◌∙◌, subst, Less, is_lt, is_gt, arith}
use Rattle.std.specs.List.{AllByRecursion}
use Rattle.std.specs.List.Sorted.{IsStrictlySortedBy, IsPartitionedBy, IsPartitionPoint}
use Rattle.std.proofs.lemmas.Bool.{both_ways}
use Rattle.std.proofs.lemmas.List.{map-id, length-take-le, get_or-take}
use Rattle.std.proofs.lemmas.List.Elements.{All-from_recursion}
use Rattle.willow_entry.specs.Pruning.{IsPlace}
use Rattle.willow_entry.specs.Row.{RowValue, IsRising, is_at_prefix, place_cmp, left_of}
use Rattle.willow_entry.proofs.Between.{all_from, less_from_test, place_from_point, rising_partitioned}
use Rattle.willow_entry.proofs.Local.{at_prefix, at_prefix_test, between_at_prefix, not_below}
use Rattle.willow_entry.proofs.Ranks.{place_total}
use Rattle.block_store.proofs.Extensions.{others_stay}
use Rattle.block_store.proofs.Finding.{either}

or_right : (a b : Bool) → a ≡ false → a || b ≡ true → b ≡ true
or_right true b e h = absurd (both_ways true e refl)
or_right false b e h = h

or_left : (a b : Bool) → a ≡ true → a || b ≡ true
or_left true b e = refl
or_left false b e = absurd (both_ways false refl e)

or_from_right : (a b : Bool) → b ≡ true → a || b ≡ true
or_from_right true b e = refl
or_from_right false b e = e

neither : (a b : Bool) → a || b ≡ false → b ≡ false
neither true b e = absurd (both_ways true e refl)
neither false b e = e

-- a row of rising rows is the place of those that are not below it
module _ (x : RowValue) (rows : List RowValue) where
  pub place_found : (n : ℕ) → IsPartitionPoint (λ s. is_lt (place_cmp s x) ≡ true) (λ s. is_lt (place_cmp s x) ≡ false) rows n → IsPlace place_cmp x rows n
  place_found n point = subst (λ l. IsPlace place_cmp x l n) (map-id rows) (place_from_point place_cmp (λ s. s) x rows n point)

  pub below_split : IsRising rows → IsPartitionedBy (λ s. is_lt (place_cmp s x)) rows
  below_split up = rising_partitioned place_cmp place_total (λ s. s) x rows (subst IsRising (sym (map-id rows)) up)

module _ (r : RowValue) where
  abbrev reaches : RowValue → Bool
  reaches s = is_lt (place_cmp s r) || is_at_prefix r s

  reached : (y s : RowValue) → place_cmp y s ≡ Less → reaches s ≡ true → reaches y ≡ true
  reached y s less e =
      let P : Bool → Type 0 = λ b. is_lt (place_cmp y r) ≡ b → reaches y ≡ true in
      let each : (b : Bool) → P b = elim [
        | true ↦ λ h. or_left (is_lt (place_cmp y r)) (is_at_prefix r y) h
        | false ↦ λ h. or_from_right (is_lt (place_cmp y r)) (is_at_prefix r y) (extension h)
      ] in
      each (is_lt (place_cmp y r)) refl
    where
      extension : is_lt (place_cmp y r) ≡ false → is_at_prefix r y ≡ true
      extension h =
          let P : Bool → Type 0 = λ b. is_lt (place_cmp s r) ≡ b → is_at_prefix r y ≡ true in
          let each : (b : Bool) → P b = elim [
            | true ↦ λ k. absurd (both_ways (is_lt (place_cmp y r)) h (ap is_lt (place_total.trans y s r less (less_from_test (place_cmp s r) k))))
            | false ↦ λ k. at_prefix_test r y (between_at_prefix r y s (at_prefix r s (or_right (is_lt (place_cmp s r)) (is_at_prefix r s) k e)) (not_below r y h) (ap is_gt less))
          ] in
          each (is_lt (place_cmp s r)) refl

  pub reaching_split : (rows : List RowValue) → IsRising rows → IsPartitionedBy reaches rows
  unfolding IsStrictlySortedBy
  reaching_split [] up i j d le lt e = absurd (omega arith)
  reaching_split (y ∷ ys) up zero zero d le lt e = e
  reaching_split (y ∷ ys) up zero (suc j) d le lt e = reached y (get_or ys j d) (All-from_recursion (λ z. place_cmp y z ≡ Less) ys up.0 j d (omega arith)) e
  reaching_split (y ∷ ys) up (suc i) zero d le lt e = absurd (omega arith)
  reaching_split (y ∷ ys) up (suc i) (suc j) d le lt e = reaching_split ys up.1 i j d (omega arith) (omega arith) e

  -- from the end of the run on nothing goes
  pub behind_stays : (rows : List RowValue) (n : ℕ) → IsPartitionPoint (λ s. reaches s ≡ true) (λ s. reaches s ≡ false) rows n → left_of r (drop n rows) ≡ drop n rows
  behind_stays rows n point = others_stay r (drop n rows)
      (subst (λ l. AllByRecursion (λ s. is_at_prefix r s ≡ false) (drop n l)) (map-id rows)
      (all_from (λ s. s) (λ s. is_at_prefix r s ≡ false) rows n (λ k d le lt. neither (is_lt (place_cmp (get_or rows k d) r)) (is_at_prefix r (get_or rows k d)) (point.1 k d le lt))))

  -- and the run does not end before the place
  pub not_before : (rows : List RowValue) (at n : ℕ) → at ≤ length rows → IsPlace place_cmp r rows at → IsPartitionPoint (λ s. reaches s ≡ true) (λ s. reaches s ≡ false) rows n → at ≤ n
  not_before rows at n h place point = elim (either n at) [
    | inl early ↦ (
        let s = get_or rows n r in
        let below = All-from_recursion (λ t. place_cmp t r ≡ Less) (take at rows) place.below n r (omega (arith, length-take-le at rows h)) in
        let less : place_cmp s r ≡ Less = ap (λ t. place_cmp t r) (sym (get_or-take at rows n r early)) ∙ below in
        absurd (both_ways (reaches s) (point.1 n r (omega arith) (omega arith)) (or_left (is_lt (place_cmp s r)) (is_at_prefix r s) (ap is_lt less)))
        )
    | inr late ↦ late
  ]
