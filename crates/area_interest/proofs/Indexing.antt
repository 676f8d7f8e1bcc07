-- Rows that are put into an index one after the other.
use Rattle.std.proofs.Common.{◌≡◌, ℕ, zero, suc, ◌≤◌, ◌<◌, inl, inr, false, List, [], ◌∷◌, ◌++◌, length, take, get_or, All, sym, ap, ◌∙◌, subst, arith, Ordering, Less, Equal}
use Rattle.std.specs.List.Sorted.{IsStrictlySortedBy}
use Rattle.std.specs.Cmp.{Equal-is}
use Rattle.std.proofs.lemmas.Bool.{false_from_ne_true}
use Rattle.std.proofs.lemmas.List.{map-append, length-map}
use Rattle.std.proofs.lemmas.List.Elements.{Contains-get_or, All-contains}
use Rattle.willow_entry.specs.Row.{RowValue, IsRising, place_cmp, inner_place_cmp, subspace_path_cmp}
use Rattle.willow_entry.proofs.Members.{Member, contains_from_member, member_from_contains, member_append_left, member_append_right, member_append_cases, any_false}
use Rattle.willow_entry.proofs.Ranks.{place-in_one_namespace}
use Rattle.willow_entry.proofs.Rising.{all_member, Less≢Equal}
use Rattle.recency_index.specs.declared.ranked.Ranked.{Ranked}
use Rattle.recency_index.specs.Recency.{ranked_of, recency_cmp, newest, is_at, has_at}
use Rattle.recency_index.specs.Rows.{items_of}
use Rattle.recency_index.proofs.Newest.{member_from_newest, member_newest, newest_alike}
use Rattle.recency_index.proofs.Rows.{row_of_item}
use Rattle.area_interest.proofs.Lists.{taken, few_rising}

-- there are no more items than rows
pub few_items : (rows : List RowValue) → length (newest (items_of rows)) ≤ length rows
few_items rows = omega (arith, few_rising recency_cmp (items_of rows), length-map rows (λ (r : RowValue). ranked_of r.entry))

-- one row more
pub one_item : (seen : List RowValue) (r : RowValue) → newest (ranked_of r.entry ∷ newest (items_of seen)) ≡ newest (items_of (seen ++ r ∷ []))
one_item seen r =
    let item = ranked_of r.entry in
    let xs = items_of seen in
    newest_alike (item ∷ newest xs) (xs ++ item ∷ [])
    (λ z m. elim m [ inl e ↦ member_append_right xs (item ∷ []) z (inl e) | inr n ↦ member_append_left xs (item ∷ []) z (member_from_newest xs z n) ])
    (λ z m. elim (member_append_cases xs (item ∷ []) z m) [ inl n ↦ inr (member_newest xs z n) | inr n ↦ elim n [ inl e ↦ inl e | inr none ↦ absurd none ] ])
    ∙ ap newest (sym (map-append (λ (s : RowValue). ranked_of s.entry) seen (r ∷ [])))

-- ---- no item stands at the place of the next row

-- what stands before a place in a rising list is below what stands there
precedes : {X : Type 0} (cmp : X → X → Ordering) (xs : List X) → IsStrictlySortedBy cmp xs → (k : ℕ) → k < length xs → (s d : X) → Member (take k xs) s → cmp s (get_or xs k d) ≡ Less
unfolding IsStrictlySortedBy
precedes cmp [] up k within s d m = absurd (omega (arith, within))
precedes cmp (x ∷ xs) up zero within s d m = absurd m
precedes cmp (x ∷ xs) up (suc k) within s d (inl e) =
    subst (λ w. cmp w (get_or xs k d) ≡ Less) e (all_member cmp (λ z. cmp x z ≡ Less) xs up.0 (get_or xs k d) (member_from_contains xs (get_or xs k d) (Contains-get_or xs k d (omega (arith, within)))))
precedes cmp (x ∷ xs) up (suc k) within s d (inr m) = precedes cmp xs up.1 k (omega (arith, within)) s d m

module _ (namespace : List ℕ) (rows : List RowValue) (up : IsRising rows) (own : All (λ (r : RowValue). r.entry.namespace ≡ namespace) rows) (k : ℕ) (r : RowValue) (within : k < length rows) (here : get_or rows k r ≡ r) where
  of_namespace : (s : RowValue) → Member rows s → s.entry.namespace ≡ namespace
  of_namespace s m = All-contains (λ (t : RowValue). t.entry.namespace ≡ namespace) rows s own (contains_from_member rows s m)

  r_there : Member rows r
  r_there = subst (λ t. Member rows t) here (member_from_contains rows (get_or rows k r) (Contains-get_or rows k r within))

  apart : (s : RowValue) → Member (take k rows) s → inner_place_cmp s r ≡ Equal → ⊥
  apart s m tied =
      let below : place_cmp s r ≡ Less = subst (λ t. place_cmp s t ≡ Less) here (precedes place_cmp rows up k within s r m) in
      Less≢Equal (sym below ∙ place-in_one_namespace s r (of_namespace s (taken rows k s m) ∙ sym (of_namespace r r_there)) ∙ tied)

  pub free_there : (items : List Ranked) → items ≡ newest (items_of (take k rows)) → has_at r.entry.subspace r.entry.path items ≡ false
  free_there items is =
      ap (has_at r.entry.subspace r.entry.path) is
      ∙ any_false (is_at r.entry.subspace r.entry.path) (newest (items_of (take k rows))) (λ item m.
      let row = row_of_item (take k rows) item (member_from_newest (items_of (take k rows)) item m) in
      false_from_ne_true (is_at r.entry.subspace r.entry.path item) (λ yes.
      apart row.0 row.1
      (ap (λ (i : Ranked). subspace_path_cmp (i.subspace, i.path) (r.entry.subspace, r.entry.path)) row.2
      ∙ (Equal-is (subspace_path_cmp (item.subspace, item.path) (r.entry.subspace, r.entry.path))).0 yes)))
