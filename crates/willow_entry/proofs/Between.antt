-- Where an item's place is among rising items, and where a row goes among those that it leaves.
use Rattle.std.proofs.Common.{◌≡◌, inl, inr, ℕ, zero, suc, ◌<◌, Bool, true, false, not, List, [], ◌∷◌, ◌++◌, length, take, drop, map, get_or, filter, cond, insert, ap₂, sym, refl, ap, ◌∙◌, subst, Ordering, Less, Equal, Greater, is_lt, arith}
use Rattle.std.specs.List.{AllByRecursion, AllWithin, take-map, drop-map}
use Rattle.std.specs.List.Sorted.{IsStrictlySortedBy, IsPartitionPoint, IsPartitionedBy}
use Rattle.std.specs.Cmp.{IsTotalOrder}
use Rattle.std.specs.Ordering.{ordering_reverse}
use Rattle.std.proofs.lemmas.List.{map-append, take-append-drop, get_or_default}
use Rattle.std.proofs.lemmas.List.Kept.{IsStrictlySortedBy-filter}
use Rattle.willow_entry.specs.Pruning.{placed, pruned, IsPlace}
use Rattle.willow_entry.specs.Row.{RowValue, is_dominating, place_cmp, live, left_of, HasCovering, IsCoveringAt}
use Rattle.willow_entry.proofs.Members.{Member, member_append_right, filter_member}
use Rattle.willow_entry.proofs.Rising.{all_member, all_from_members}
use Rattle.willow_entry.proofs.Pruning.{IsCovered}
use Rattle.willow_entry.proofs.Ranks.{place_total}
use Rattle.willow_entry.proofs.RowLaws.{rows_prune, covering_from_covered}
use Rattle.std.proofs.lemmas.Bool.{not-true, false≢true}
use Rattle.willow_entry.proofs.Live.{live-uncovered, live-covered, live-rises, live-live}

pub less_from_test : (o : Ordering) → is_lt o ≡ true → o ≡ Less
less_from_test Less e = refl
less_from_test Equal e = absurd (false≢true e)
less_from_test Greater e = absurd (false≢true e)

-- ---- what holds by position, of the items before a position and of those from it on

module _ {X Y : Type 0} (f : Y → X) (P : X → Type 0) where
  pub all_before : (ys : List Y) (n : ℕ) → AllWithin (λ y. P (f y)) ys 0 n → AllByRecursion P (take n (map f ys))
  all_before ys zero h = tt
  all_before [] (suc n) h = tt
  all_before (y ∷ ys) (suc n) h = (h 0 y (omega arith) (omega arith), all_before ys n (λ k d le lt. h (suc k) d (omega arith) (omega arith)))

  pub all_from : (ys : List Y) (n : ℕ) → AllWithin (λ y. P (f y)) ys n (length ys) → AllByRecursion P (drop n (map f ys))
  all_from [] zero h = tt
  all_from (y ∷ ys) zero h = (h 0 y (omega arith) (omega arith), all_from ys zero (λ k d le lt. h (suc k) d (omega arith) (omega arith)))
  all_from [] (suc n) h = tt
  all_from (y ∷ ys) (suc n) h = all_from ys n (λ k d le lt. h (suc k) d (omega arith) (omega arith))

  pub all_at : (ys : List Y) → AllByRecursion P (map f ys) → (k : ℕ) (d : Y) → k < length ys → P (f (get_or ys k d))
  all_at [] all k d lt = absurd (omega arith)
  all_at (y ∷ ys) all zero d lt = all.0
  all_at (y ∷ ys) all (suc k) d lt = all_at ys all.1 k d (omega arith)

module _ {X : Type 0} (cmp : X → X → Ordering) where
  -- an item goes between those below it and those above it
  pub placed-between : (x : X) (before after : List X) → AllByRecursion (λ y. cmp x y ≡ Greater) before → AllByRecursion (λ y. cmp x y ≡ Less) after → placed cmp x (before ++ after) ≡ before ++ x ∷ after
  placed-between x [] [] a b = refl
  placed-between x [] (y ∷ after) a b = rw b.0 refl
  placed-between x (y ∷ before) after a b = rw a.0 (ap (λ l. y ∷ l) (placed-between x before after a.1 b))

  -- what a search among rising items finds is the place
  pub place_from_point : {Y : Type 0} (f : Y → X) (x : X) (ys : List Y) (n : ℕ) → IsPartitionPoint (λ y. is_lt (cmp (f y) x) ≡ true) (λ y. is_lt (cmp (f y) x) ≡ false) ys n → IsPlace cmp x (map f ys) n
  place_from_point f x ys n p = record {
    below = all_before f (λ y. cmp y x ≡ Less) ys n (λ k d le lt. less_from_test _ (p.0 k d le lt));
    beyond = all_from f (λ y. is_lt (cmp y x) ≡ false) ys n p.1;
  }

  -- no item that is below x comes after one that is not
  pub rising_partitioned : IsTotalOrder cmp → {Y : Type 0} (f : Y → X) (x : X) (ys : List Y) → IsStrictlySortedBy cmp (map f ys) → IsPartitionedBy (λ y. is_lt (cmp (f y) x)) ys
  unfolding IsStrictlySortedBy
  rising_partitioned total f x [] up i j d le lt e = absurd (omega arith)
  rising_partitioned total f x (y ∷ ys) up zero zero d le lt e = e
  rising_partitioned total f x (y ∷ ys) up zero (suc j) d le lt e =
      ap is_lt (total.trans (f y) (f (get_or ys j d)) x (all_at f (λ z. cmp (f y) z ≡ Less) ys up.0 j d (omega arith)) (less_from_test _ e))
  rising_partitioned total f x (y ∷ ys) up (suc i) zero d le lt e = absurd (omega arith)
  rising_partitioned total f x (y ∷ ys) up (suc i) (suc j) d le lt e = rising_partitioned total f x ys up.1 i j d (omega arith) (omega arith) e

  below_turned : IsTotalOrder cmp → (x y : X) → cmp y x ≡ Less → cmp x y ≡ Greater
  below_turned total x y e = total.antisymm x y ∙ ap ordering_reverse e

  pub all_below_turned : IsTotalOrder cmp → (x : X) (ys : List X) → AllByRecursion (λ y. cmp y x ≡ Less) ys → AllByRecursion (λ y. cmp x y ≡ Greater) ys
  all_below_turned total x ys all = all_from_members cmp (λ y. cmp x y ≡ Greater) ys (λ y m. below_turned total x y (all_member cmp (λ z. cmp z x ≡ Less) ys all y m))

-- ---- lists of what is seen of items

pub map-filter : {X Y : Type 0} (f : X → Y) (p : Y → Bool) (xs : List X) → map f (filter (λ x. p (f x)) xs) ≡ filter p (map f xs)
map-filter f p [] = refl
map-filter f p (x ∷ xs) =
    let P : Bool → Type 0 = λ b. map f (cond b (x ∷ filter (λ z. p (f z)) xs) (filter (λ z. p (f z)) xs)) ≡ cond b (f x ∷ filter p (map f xs)) (filter p (map f xs)) in
    let each : (b : Bool) → P b = elim [ true ↦ ap (λ l. f x ∷ l) (map-filter f p xs) | false ↦ map-filter f p xs ] in
    each (p (f x))

pub map-insert : {X Y : Type 0} (f : X → Y) (xs : List X) (i : ℕ) (x : X) → map f (insert xs i x) ≡ insert (map f xs) i (f x)
map-insert f xs i x = map-append f (take i xs) (x ∷ drop i xs) ∙ ap₂ (λ a b. a ++ f x ∷ b) (sym (take-map f i xs)) (sym (drop-map f i xs))

-- ---- one more row

pub covering_from_at : (rows : List RowValue) (i : ℕ) (r : RowValue) → IsCoveringAt rows i r → HasCovering rows r
covering_from_at rows i r at = (get_or rows i r, (i, at.within, get_or_default rows i (get_or rows i r) r at.within), at.covers)

-- a row that one of the rows covers changes nothing
pub live-kept : (rows : List RowValue) (r : RowValue) (i : ℕ) → live rows ≡ rows → IsCoveringAt rows i r → rows ≡ live (rows ++ r ∷ [])
live-kept rows r i is_live at = sym (live-covered rows r (covering_from_at rows i r at) ∙ is_live)

pub rising_live : (rows : List RowValue) → live rows ≡ rows → IsStrictlySortedBy place_cmp rows
rising_live rows is_live = subst (λ l. IsStrictlySortedBy place_cmp l) is_live (live-rises rows)

-- what is live of some rows is live
pub live-again : (kept rows : List RowValue) → kept ≡ live rows → live kept ≡ kept
live-again kept rows e = rw e (live-live rows)

pub live-empty : live [] ≡ []
unfolding pruned
live-empty = refl

-- a row that is not below r, and does not stand at its place, is above it
above_from : (r s : RowValue) → is_lt (place_cmp s r) ≡ false → (place_cmp r s ≡ Equal → ⊥) → place_cmp r s ≡ Less
above_from r s not_below apart =
    let P : Ordering → Type 0 = λ o. place_cmp r s ≡ o → place_cmp r s ≡ Less in
    let each : (o : Ordering) → P o = elim [
      | Less ↦ λ e. e
      | Equal ↦ λ e. absurd (apart e)
      | Greater ↦ λ e. absurd (false≢true (sym not_below ∙ ap is_lt (place_total.antisymm s r ∙ ap ordering_reverse e)))
    ] in
    each (place_cmp r s) refl

module _ (rows : List RowValue) (r : RowValue) (is_live : live rows ≡ rows) (uncovered : HasCovering rows r → ⊥) where
  -- none of the rows that an uncovered row leaves stands at its place
  left_apart : (s : RowValue) → Member (left_of r rows) s → place_cmp r s ≡ Equal → ⊥
  left_apart s m e =
      let f = filter_member (λ t. not (is_dominating r t)) rows s m in
      uncovered (covering_from_covered rows r (at_one_place s f.0 f.1 e))
    where
      at_one_place : (s : RowValue) → Member rows s → not (is_dominating r s) ≡ true → place_cmp r s ≡ Equal → IsCovered is_dominating rows r
      at_one_place s m n e =
          let P : Bool → Type 0 = λ b. is_dominating s r ≡ b → IsCovered is_dominating rows r in
          let each : (b : Bool) → P b = elim [
            | true ↦ λ d. (s, m, inr d)
            | false ↦ λ d. (s, m, inl (sym (rows_prune.settled r s e (not-true (is_dominating r s) n) d)))
          ] in
          each (is_dominating s r) refl

  -- An uncovered row goes between the rows that it leaves: those below it, and the others.
  pub live-between : (before after : List RowValue) → left_of r rows ≡ before ++ after → AllByRecursion (λ s. place_cmp s r ≡ Less) before → AllByRecursion (λ s. is_lt (place_cmp s r) ≡ false) after → before ++ r ∷ after ≡ live (rows ++ r ∷ [])
  live-between before after parts below beyond =
      let above : AllByRecursion (λ s. place_cmp r s ≡ Less) after = all_from_members place_cmp (λ s. place_cmp r s ≡ Less) after (λ s m.
      above_from r s (all_member place_cmp (λ t. is_lt (place_cmp t r) ≡ false) after beyond s m)
      (left_apart s (subst (λ l. Member l s) (sym parts) (member_append_right before after s m)))) in
      sym (placed-between place_cmp r before after (all_below_turned place_cmp place_total r before below) above)
      ∙ ap (λ l. placed place_cmp r l) (sym parts)
      ∙ live-uncovered rows r is_live uncovered

  pub left_rises : IsStrictlySortedBy place_cmp (left_of r rows)
  left_rises = IsStrictlySortedBy-filter place_cmp (λ s. not (is_dominating r s)) rows (rising_live rows is_live)

  -- the same at the place among the rows that it leaves
  pub live-inserted : (n : ℕ) → IsPlace place_cmp r (left_of r rows) n → insert (left_of r rows) n r ≡ live (rows ++ r ∷ [])
  live-inserted n p = live-between (take n (left_of r rows)) (drop n (left_of r rows)) (sym (take-append-drop n (left_of r rows))) p.below p.beyond
