-- Live rows that are sorted by recency.
use Rattle.std.proofs.Common.{◌≡◌, ℕ, ◌+◌, zero, suc, ◌<◌, Bool, false, Bor, List, [], ◌∷◌, map, length, get_or, Ordering, Less, Equal, Greater, is_lt, refl, sym, ap, ◌∙◌, subst, arith, Contains}
use Rattle.std.specs.List.{AllByRecursion, IsDistinct}
use Rattle.std.specs.List.Sorted.{IsPermutation, IsSortedBy, IsStrictlySortedBy}
use denote.Param.Members.{Mut}
use Rattle.std.specs.Cmp.{IsTotalOrder, IsStrictWeakOrder}
use Rattle.std.specs.Fn.{Called, ComparesAs}
use Rattle.std.specs.Ordering.{is_eq, eq_by_cmp, ordering_reverse}
use Rattle.std.proofs.lemmas.Fn.{always_returns_same}
use Rattle.std.proofs.lemmas.List.{length-map}
use Rattle.std.proofs.lemmas.List.Sorted.{ranks_by, IsPermutation-map, IsPermutation-sym, Contains-permutation}
use Rattle.std.proofs.lemmas.Map.Keys.{IsDistinct-IsPermutation, apart_from_distinct, sorted_from_all_adjacent}
use Rattle.willow_entry.specs.declared.row.LogRow.{LogRow}
use Rattle.willow_entry.specs.Row.{RowValue, is_dominating, place_cmp, live}
use Rattle.willow_entry.proofs.Members.{Member, contains_from_member, member_from_contains}
use Rattle.willow_entry.proofs.Pruning.{pruned_member}
use Rattle.willow_entry.proofs.RowLaws.{rows_prune}
use Rattle.willow_entry.proofs.Rising.{rising-rises, same_rising, member_from_rising, member_rising}
use Rattle.willow_entry.proofs.Between.{rising_live, live-again}
use Rattle.recency_index.specs.Recency.{ranked_of, recency_cmp}
use Rattle.recency_index.specs.Rows.{items_of, row_recency_cmp, newest_rows}
use Rattle.recency_index.proofs.Order.{recency_tie}
use Rattle.recency_index.proofs.Rows.{row_total}
use Rattle.ns_state.specs.Log.{IsLog, values}
use Rattle.ns_state.proofs.Recent.{one_row, items_distinct}

-- ---- what a key orders

get-map : {X K : Type 0} (f : X → K) (xs : List X) (k : ℕ) (d : X) → get_or (map f xs) k (f d) ≡ f (get_or xs k d)
get-map f [] k d = refl
get-map f (x ∷ xs) zero d = refl
get-map f (x ∷ xs) (suc k) d = get-map f xs k d

all_under : {X K : Type 0} (f : X → K) (P : K → Type 0) (xs : List X) → AllByRecursion P (map f xs) → AllByRecursion (λ x. P (f x)) xs
all_under f P [] all = tt
all_under f P (x ∷ xs) all = (all.0, all_under f P xs all.1)

distinct_under : {X K : Type 0} (f : X → K) (e : K → K → Bool) (xs : List X) → IsDistinct e (map f xs) → IsDistinct (λ a b. e (f a) (f b)) xs
unfolding IsDistinct
distinct_under f e [] distinct = tt
distinct_under f e (x ∷ xs) distinct = (all_under f (λ y. e (f x) y ≡ false) xs distinct.0, distinct_under f e xs distinct.1)

less_of : (o : Ordering) → is_lt (ordering_reverse o) ≡ false → is_eq o ≡ false → o ≡ Less
less_of Less up apart = refl
less_of Equal up apart = absurd cc
less_of Greater up apart = absurd cc

is_eq-reverse : (o : Ordering) → is_eq (ordering_reverse o) ≡ is_eq o
is_eq-reverse Less = refl
is_eq-reverse Equal = refl
is_eq-reverse Greater = refl

-- what is sorted and distinct rises strictly
module _ {K : Type 0} (cmp : K → K → Ordering) (total : IsTotalOrder cmp) where
  pub flips : (x y : K) → eq_by_cmp cmp x y ≡ eq_by_cmp cmp y x
  flips x y = ap is_eq (total.antisymm x y) ∙ is_eq-reverse (cmp y x)

  rises_at : (ks : List K) (d : K) → IsDistinct (eq_by_cmp cmp) ks → ((k : ℕ) → k + 1 < length ks → is_lt (cmp (get_or ks (k + 1) d) (get_or ks k d)) ≡ false) → IsStrictlySortedBy cmp ks
  rises_at ks d distinct up = sorted_from_all_adjacent total ks d (λ k within.
      let a = get_or ks k d in
      let b = get_or ks (k + 1) d in
      less_of (cmp a b) (ap is_lt (sym (total.antisymm b a)) ∙ up k within) (apart_from_distinct (eq_by_cmp cmp) ks k (k + 1) d distinct (omega arith) within))

  pub sorted_rises : {X : Type 0} (f : X → K) (xs : List X) → IsDistinct (eq_by_cmp cmp) (map f xs) → IsSortedBy (λ x y. is_lt (cmp (f x) (f y))) xs → IsStrictlySortedBy cmp (map f xs)
  unfolding IsStrictlySortedBy
  sorted_rises f [] distinct up = tt
  sorted_rises f (x ∷ xs) distinct up = rises_at (map f (x ∷ xs)) (f x) distinct (λ k within.
      ap is_lt (λ i. cmp (get-map f (x ∷ xs) (k + 1) x i) (get-map f (x ∷ xs) k x i)) ∙ up k x (omega arith) (omega (arith, within, length-map (x ∷ xs) f)))

  -- what a sort ensures, where each call of its closure compares the two by their keys
  pub sorted_by : {X : Type 0} (f : X → K) {F : Type 0} {g : Mut F (Bor X × (Bor X × Unit {0})) Ordering} {compare : F} (xs : List X)
      → ((lt : X → X → Bool) → IsStrictWeakOrder lt → ComparesAs g lt compare → IsSortedBy lt xs)
      → ((a : Bor X × (Bor X × Unit {0})) (r : Ordering) (compare' : F) → Called g compare a r compare' → (r ≡ cmp (f a.0.now) (f a.1.0.now)) × (compare' ≡ compare)) → IsSortedBy (λ x y. is_lt (cmp (f x) (f y))) xs
  sorted_by f {g = g} {compare = compare} xs up h = up (λ x y. is_lt (cmp (f x) (f y))) (ranks_by total f)
      (always_returns_same g (λ a r. is_lt r ≡ is_lt (cmp (f a.0.now) (f a.1.0.now))) compare (λ a r compare' k. (ap is_lt (h a r compare' k).0, (h a r compare' k).1)))

-- ---- what is live of a log

module _ {R : Type 0} (value : R → RowValue) (namespace : List ℕ) (log : List (LogRow R)) (is : IsLog value namespace log) where
  abbrev rows : List RowValue
  rows = live (values value log)

  in_namespace : (s : RowValue) → Member rows s → s.entry.namespace ≡ namespace
  in_namespace s m =
      let at = contains_from_member (values value log) s (pruned_member is_dominating place_cmp rows_prune (values value log) s m).0 in
      subst (λ (r : RowValue). r.entry.namespace ≡ namespace) at.2 (is.one_namespace at.0 s at.1)

  is_live : live rows ≡ rows
  is_live = live-again rows (values value log) refl

  distinct : IsDistinct (eq_by_cmp row_recency_cmp) rows
  distinct = distinct_under (λ (r : RowValue). ranked_of r.entry) (eq_by_cmp recency_cmp) rows
      (items_distinct namespace rows is_live in_namespace rows (rising_live rows is_live) (λ s m. m))

  -- of the live rows those that tie by recency are one
  apart : (s t : RowValue) → Member rows s → Member rows t → row_recency_cmp s t ≡ Equal → s ≡ t
  apart s t m k tied = one_row namespace rows is_live in_namespace s t m k (recency_tie (ranked_of s.entry) (ranked_of t.entry) tied)

  -- the live rows in another order, sorted by recency
  pub sorted_newest : {X : Type 0} (f : X → RowValue) (xs ys : List X) → map f xs ≡ rows → IsPermutation xs ys → IsSortedBy (λ x y. is_lt (row_recency_cmp (f x) (f y))) ys → map f ys ≡ newest_rows rows
  sorted_newest f xs ys are moved up =
      let perm : IsPermutation rows (map f ys) = subst (λ l. IsPermutation l (map f ys)) are (IsPermutation-map f xs ys moved) in
      let back = IsPermutation-sym rows (map f ys) perm in
      let once = IsDistinct-IsPermutation (eq_by_cmp row_recency_cmp) (flips row_recency_cmp row_total) rows (map f ys) perm distinct in
      same_rising row_recency_cmp row_total (map f ys) (newest_rows rows) (sorted_rises row_recency_cmp row_total f ys once up) (rising-rises row_recency_cmp row_total rows)
      (λ s m. member_rising row_recency_cmp rows apart s (member_from_contains rows s (Contains-permutation (map f ys) rows s back (contains_from_member (map f ys) s m))))
      (λ s m. member_from_contains (map f ys) s (Contains-permutation rows (map f ys) s perm (contains_from_member rows s (member_from_rising row_recency_cmp rows s m))))
