-- The rows that a row dominates stand in one run from its place on.
use Rattle.std.proofs.Common.{◌≡◌, ℕ, zero, suc, ◌+◌, false, not, List, [], ◌∷◌, ◌++◌, length, take, drop, map, get_or, slice_get, Some, refl, sym, ap, ◌∙◌, Less, is_lt, is_gt, arith, count_by}
use Rattle.std.specs.List.{AllByRecursion}
use Rattle.std.specs.List.Sorted.{IsStrictlySortedBy, IsPartitionedBy}
use Rattle.std.specs.Ordering.{ordering_reverse}
use Rattle.std.proofs.lemmas.Bool.{false≢true, both_ways, false_from_ne_true}
use Rattle.std.proofs.lemmas.List.{take-append-drop, length-append}
use Rattle.std.proofs.lemmas.List.Elements.{filter-append}
use Rattle.std.proofs.lemmas.List.Sums.{length-filter}
use Rattle.std.proofs.lemmas.List.Filters.{length-filter_both}
use Rattle.willow_entry.specs.Pruning.{IsPlace}
use Rattle.willow_entry.specs.Row.{RowValue, is_at_prefix, is_dominating, place_cmp, IsRising, HasCovering, live, left_of}
use Rattle.willow_entry.proofs.Members.{filter_member}
use Rattle.willow_entry.proofs.Rising.{all_member, all_from_members}
use Rattle.willow_entry.proofs.Ranks.{place_total}
use Rattle.willow_entry.proofs.Local.{at_prefix, at_prefix_test, dominated_at_prefix, at_prefix_not_above, between_at_prefix, keeps_all, not_below}
use Rattle.willow_entry.proofs.Between.{all_at, live-between}

-- no extension of r comes after what is none
pub extensions_partitioned : (r : RowValue) {Y : Type 0} (f : Y → RowValue) (ys : List Y) → IsRising (map f ys) → AllByRecursion (λ s. is_lt (place_cmp s r) ≡ false) (map f ys) → IsPartitionedBy (λ y. is_at_prefix r (f y)) ys
unfolding IsStrictlySortedBy
extensions_partitioned r f [] up beyond i j d le lt e = absurd (omega arith)
extensions_partitioned r f (y ∷ ys) up beyond zero zero d le lt e = e
extensions_partitioned r f (y ∷ ys) up beyond zero (suc j) d le lt e =
    let s = f (get_or ys j d) in
    at_prefix_test r (f y) (between_at_prefix r (f y) s (at_prefix r s e) (not_below r (f y) beyond.0)
    (ap is_gt (all_at f (λ z. place_cmp (f y) z ≡ Less) ys up.0 j d (omega arith))))
extensions_partitioned r f (y ∷ ys) up beyond (suc i) zero d le lt e = absurd (omega arith)
extensions_partitioned r f (y ∷ ys) up beyond (suc i) (suc j) d le lt e = extensions_partitioned r f ys up.1 beyond.1 i j d (omega arith) (omega arith) e

-- what is no extension of r is not dominated, so it stays
pub others_stay : (r : RowValue) (rows : List RowValue) → AllByRecursion (λ s. is_at_prefix r s ≡ false) rows → left_of r rows ≡ rows
others_stay r rows none = keeps_all r rows (λ s m. false_from_ne_true (is_dominating r s) (λ d.
    both_ways (is_at_prefix r s) (all_member place_cmp (λ t. is_at_prefix r t ≡ false) rows none s m) (dominated_at_prefix r s d)))

-- where the first of rising rows that are not below r is no extension of it, none is
pub first_tells : (r : RowValue) (rows : List RowValue) → IsRising rows → AllByRecursion (λ s. is_lt (place_cmp s r) ≡ false) rows → ((s : RowValue) → slice_get rows 0 ≡ Some s → is_at_prefix r s ≡ false) → left_of r rows ≡ rows
unfolding IsStrictlySortedBy
first_tells r [] up beyond tells = refl
first_tells r (y ∷ ys) up beyond tells =
    let none : is_at_prefix r y ≡ false = tells y refl in
    let later : AllByRecursion (λ s. is_at_prefix r s ≡ false) ys = all_from_members place_cmp (λ s. is_at_prefix r s ≡ false) ys (λ s m. false_from_ne_true (is_at_prefix r s) (λ e.
    both_ways (is_at_prefix r y) none (at_prefix_test r y (between_at_prefix r y s (at_prefix r s e) (not_below r y beyond.0)
    (ap is_gt (all_member place_cmp (λ z. place_cmp y z ≡ Less) ys up.0 s m)))))) in
    others_stay r (y ∷ ys) (none, later)

-- and so does what is below r
pub below_stays : (r : RowValue) (rows : List RowValue) → AllByRecursion (λ s. place_cmp s r ≡ Less) rows → left_of r rows ≡ rows
below_stays r rows below = keeps_all r rows (λ s m. false_from_ne_true (is_dominating r s) (λ d.
    let less = all_member place_cmp (λ t. place_cmp t r ≡ Less) rows below s m in
    false≢true (sym (at_prefix_not_above r s (at_prefix r s (dominated_at_prefix r s d))) ∙ ap is_gt (place_total.antisymm r s ∙ ap ordering_reverse less))))

-- ---- one more row

module _ (rows : List RowValue) (r : RowValue) (at : ℕ) (place : IsPlace place_cmp r rows at) where
  -- what r leaves: the rows below it, and what it leaves of the others
  left_parts : left_of r rows ≡ take at rows ++ left_of r (drop at rows)
  left_parts =
      ap (left_of r) (sym (take-append-drop at rows))
      ∙ filter-append (λ s. not (is_dominating r s)) (take at rows) (drop at rows)
      ∙ ap (λ l. l ++ left_of r (drop at rows)) (below_stays r (take at rows) place.below)

  pub pruned_count : length (take at rows ++ left_of r (drop at rows)) + count_by (is_dominating r) rows ≡ length rows
  pruned_count = omega (arith, ap length left_parts, length-filter (is_dominating r) rows, length-filter_both (is_dominating r) (λ s. not (is_dominating r s)) (λ s. refl) rows)

  -- where nothing goes from the place on, nothing goes
  pub none_counted : left_of r (drop at rows) ≡ drop at rows → 0 ≡ count_by (is_dominating r) rows
  none_counted stays = omega (arith, pruned_count, ap length (ap (λ l. take at rows ++ l) stays), ap length (take-append-drop at rows))

  -- an uncovered row goes to its place, between the rows below it and what it leaves of the others
  pub live-parted : live rows ≡ rows → (HasCovering rows r → ⊥) → take at rows ++ r ∷ left_of r (drop at rows) ≡ live (rows ++ r ∷ [])
  live-parted is_live uncovered =
      let after = left_of r (drop at rows) in
      let beyond : AllByRecursion (λ s. is_lt (place_cmp s r) ≡ false) after = all_from_members place_cmp (λ s. is_lt (place_cmp s r) ≡ false) after (λ s m.
      all_member place_cmp (λ t. is_lt (place_cmp t r) ≡ false) (drop at rows) place.beyond s (filter_member (λ t. not (is_dominating r t)) (drop at rows) s m).0) in
      live-between rows r is_live uncovered (take at rows) after left_parts place.below beyond

  -- with the row there is one more, but for those that went
  pub live_count : live rows ≡ rows → (HasCovering rows r → ⊥) → length (live (rows ++ r ∷ [])) + count_by (is_dominating r) rows ≡ length rows + 1
  live_count is_live uncovered = omega (
    arith,
    ap length (live-parted is_live uncovered),
    length-append (take at rows) (r ∷ left_of r (drop at rows)),
    length-append (take at rows) (left_of r (drop at rows)),
    pruned_count,
  )
