-- What one more row makes of the items of live rows by recency.
use Rattle.std.proofs.Common.{◌≡◌, inl, inr, ℕ, true, false, not, List, [], ◌∷◌, ◌++◌, filter, get_or, Contains, refl, sym, ap, ◌∙◌, subst, Less, Equal}
use Rattle.std.specs.List.{All, IsDistinct}
use Rattle.std.specs.List.Sorted.{IsStrictlySortedBy}
use Rattle.std.specs.Cmp.{Equal-is}
use Rattle.std.specs.Ordering.{is_eq, eq_by_cmp}
use Rattle.std.proofs.lemmas.Bool.{false≢true, false_from_ne_true, not-true, not_from_false}
use Rattle.std.proofs.lemmas.Cmp.{tied_itself, tied_back}
use Rattle.std.proofs.lemmas.List.{get_or_default}
use Rattle.std.proofs.lemmas.List.Kept.{IsStrictlySortedBy-filter}
use Rattle.willow_entry.specs.Pruning.{placed}
use Rattle.willow_entry.specs.Row.{RowValue, is_dominating, place_cmp, inner_place_cmp, left_of, live, HasCovering, IsRising}
use Rattle.willow_entry.proofs.Members.{Member, contains_from_member, member_from_contains, member_filter, filter_member, any_false, true_of_any, any_true}
use Rattle.willow_entry.proofs.Pruning.{pruned_member}
use Rattle.willow_entry.proofs.Ranks.{subspace_path_total, place_total, place-in_one_namespace}
use Rattle.willow_entry.proofs.Rising.{Less≢Equal, all_member, all_from_members, member_from_placed, member_placed_old, member_placed_new}
use Rattle.willow_entry.proofs.RowLaws.{rows_prune, settled_rows, covering_from_covered}
use Rattle.willow_entry.proofs.Live.{live-uncovered}
use Rattle.willow_entry.proofs.Between.{rising_live}
use Rattle.recency_index.specs.declared.ranked.Ranked.{Ranked}
use Rattle.recency_index.specs.Recency.{ranked_of, recency_cmp, newest, is_at, has_at, is_among, without}
use Rattle.recency_index.proofs.Order.{recency_total, recency_tie}
use Rattle.recency_index.proofs.Newest.{member_newest, member_from_newest, newest_alike}
use Rattle.recency_index.specs.Rows.{items_of}
use Rattle.recency_index.proofs.Rows.{member_item, row_of_item}

abbrev item_of : RowValue → Ranked
item_of s = ranked_of s.entry

-- ---- which items there are

among_from_member : (gone : List Ranked) (item : Ranked) → Member gone item → is_among gone item ≡ true
among_from_member gone item m = true_of_any (λ g. eq_by_cmp recency_cmp g item) gone item m (ap is_eq (tied_itself recency_total item))

member_from_among : (gone : List Ranked) (item : Ranked) → is_among gone item ≡ true → Member gone item
member_from_among gone item t =
    let found = any_true (λ g. eq_by_cmp recency_cmp g item) gone t in
    subst (Member gone) (recency_tie found.0 item ((Equal-is (recency_cmp found.0 item)).0 found.2)) found.1

-- rows of one namespace with items in one subspace at one path stand at one place
pub one_place : (s t : RowValue) → s.entry.namespace ≡ t.entry.namespace → is_at t.entry.subspace t.entry.path (item_of s) ≡ true → place_cmp s t ≡ Equal
one_place s t namespace there = place-in_one_namespace s t namespace ∙ (Equal-is (inner_place_cmp s t)).0 there

one_item : (s t : RowValue) → item_of s ≡ item_of t → is_at t.entry.subspace t.entry.path (item_of s) ≡ true
one_item s t e = ap (is_at t.entry.subspace t.entry.path) e ∙ ap is_eq (tied_itself subspace_path_total (t.entry.subspace, t.entry.path))

-- ---- live rows of one namespace

module _ (n : List ℕ) (rows : List RowValue) (is_live : live rows ≡ rows) (all : (s : RowValue) → Member rows s → s.entry.namespace ≡ n) where
  undominated : (s : RowValue) → Member rows s → (t : RowValue) → Member rows t → is_dominating t s ≡ false
  undominated s m t k = (pruned_member is_dominating place_cmp rows_prune rows s (subst (λ l. Member l s) (sym is_live) m)).1 t k

  -- of these rows those with one item are one
  pub one_row : (s t : RowValue) → Member rows s → Member rows t → item_of s ≡ item_of t → s ≡ t
  one_row s t m k e = settled_rows s t (one_place s t (all s m ∙ sym (all t k)) (one_item s t e)) (undominated t k s m) (undominated s m t k)

  -- the items of rows that rise are apart
  pub items_distinct : (xs : List RowValue) → IsRising xs → ((s : RowValue) → Member xs s → Member rows s) → IsDistinct (eq_by_cmp recency_cmp) (items_of xs)
  unfolding IsStrictlySortedBy IsDistinct
  items_distinct [] up among = tt
  items_distinct (x ∷ xs) up among = (
    all_from_members recency_cmp (λ y. eq_by_cmp recency_cmp (item_of x) y ≡ false) (items_of xs) (λ y m. false_from_ne_true (is_eq (recency_cmp (item_of x) y)) (λ t.
        let found = row_of_item xs y m in
        let same : item_of x ≡ item_of found.0 = recency_tie (item_of x) y ((Equal-is (recency_cmp (item_of x) y)).0 t) ∙ sym found.2 in
        let tied = one_place x found.0 (all x (among x (inl refl)) ∙ sym (all found.0 (among found.0 (inr found.1)))) (one_item x found.0 same) in
        Less≢Equal (sym (all_member place_cmp (λ z. place_cmp x z ≡ Less) xs up.0 found.0 found.1) ∙ tied))),
    items_distinct xs up.1 (λ s m. among s (inr m)),
  )

  module _ (r : RowValue) where
    abbrev gone : List RowValue
    gone = filter (is_dominating r) rows

    pub gone_distinct : IsDistinct (eq_by_cmp recency_cmp) (items_of gone)
    gone_distinct = items_distinct gone (IsStrictlySortedBy-filter place_cmp (is_dominating r) rows (rising_live rows is_live)) (λ s m. (filter_member (is_dominating r) rows s m).0)

    pub gone_held : (items : List Ranked) → items ≡ newest (items_of rows) → All (λ g. Contains items g) (items_of gone)
    gone_held items is = λ k d within.
        let g = get_or (items_of gone) k d in
        let m = member_from_contains (items_of gone) g (k, within, get_or_default (items_of gone) k g d within) in
        let found = row_of_item gone g m in
        let there = member_item rows found.0 (filter_member (is_dominating r) rows found.0 found.1).0 in
        contains_from_member items g (subst (λ l. Member l g) (sym is) (member_newest (items_of rows) g (subst (Member (items_of rows)) found.2 there)))

    -- the items that are left are those of the rows that are left
    member_left : (item : Ranked) → Member (without (items_of gone) (newest (items_of rows))) item → Member (items_of (left_of r rows)) item
    member_left item m =
        let kept = filter_member (λ i. not (is_among (items_of gone) i)) (newest (items_of rows)) item m in
        let found = row_of_item rows item (member_from_newest (items_of rows) item kept.0) in
        let stays : is_dominating r found.0 ≡ false = false_from_ne_true (is_dominating r found.0) (λ d.
        false≢true (sym (not-true (is_among (items_of gone) item) kept.1) ∙ among_from_member (items_of gone) item (subst (Member (items_of gone)) found.2 (member_item gone found.0 (member_filter (is_dominating r) rows found.0 found.1 d))))) in
        subst (Member (items_of (left_of r rows))) found.2 (member_item (left_of r rows) found.0 (member_filter (λ s. not (is_dominating r s)) rows found.0 found.1 (not_from_false (is_dominating r found.0) stays)))

    left_member : (item : Ranked) → Member (items_of (left_of r rows)) item → Member (without (items_of gone) (newest (items_of rows))) item
    left_member item m =
        let found = row_of_item (left_of r rows) item m in
        let held = filter_member (λ s. not (is_dominating r s)) rows found.0 found.1 in
        let stays : is_among (items_of gone) item ≡ false = false_from_ne_true (is_among (items_of gone) item) (λ t.
        let other = row_of_item gone item (member_from_among (items_of gone) item t) in
        let dominated = filter_member (is_dominating r) rows other.0 other.1 in
        let same = one_row other.0 found.0 dominated.0 held.0 (other.2 ∙ sym found.2) in
        false≢true (sym (not-true (is_dominating r found.0) held.1) ∙ ap (is_dominating r) (sym same) ∙ dominated.1)) in
        member_filter (λ i. not (is_among (items_of gone) i)) (newest (items_of rows)) item
        (member_newest (items_of rows) item (subst (Member (items_of rows)) found.2 (member_item rows found.0 held.0)))
        (not_from_false (is_among (items_of gone) item) stays)

    module _ (here : r.entry.namespace ≡ n) (uncovered : HasCovering rows r → ⊥) where
      -- of the rows that r leaves none but r itself stands at its place
      left_apart : (s : RowValue) → Member (left_of r rows) s → place_cmp r s ≡ Equal → r ≡ s
      left_apart s m tie =
          let held = filter_member (λ t. not (is_dominating r t)) rows s m in
          let not_above : is_dominating s r ≡ false = false_from_ne_true (is_dominating s r) (λ d. uncovered (covering_from_covered rows r (s, held.0, inr d))) in
          settled_rows r s tie (not-true (is_dominating r s) held.1) not_above

      pub left_free : has_at r.entry.subspace r.entry.path (without (items_of gone) (newest (items_of rows))) ≡ false
      left_free = any_false (is_at r.entry.subspace r.entry.path) (without (items_of gone) (newest (items_of rows))) (λ item m. false_from_ne_true (is_at r.entry.subspace r.entry.path item) (λ t.
          let found = row_of_item (left_of r rows) item (member_left item m) in
          let held = filter_member (λ s. not (is_dominating r s)) rows found.0 found.1 in
          let tie = one_place found.0 r (all found.0 held.0 ∙ sym here) (ap (is_at r.entry.subspace r.entry.path) found.2 ∙ t) in
          let same = left_apart found.0 found.1 (tied_back place_total found.0 r tie) in
          uncovered (covering_from_covered rows r (found.0, held.0, inl (sym same)))))

      pub newest_more : newest (item_of r ∷ without (items_of gone) (newest (items_of rows))) ≡ newest (items_of (live (rows ++ r ∷ [])))
      newest_more =
          let left = left_of r rows in
          let stored = placed place_cmp r left in
          newest_alike (item_of r ∷ without (items_of gone) (newest (items_of rows))) (items_of stored)
          (λ item m. elim m [
            | inl e ↦ subst (Member (items_of stored)) e (member_item stored r (member_placed_new place_cmp r left left_apart))
            | inr k ↦ (let found = row_of_item left item (member_left item k) in subst (Member (items_of stored)) found.2 (member_item stored found.0 (member_placed_old place_cmp r left found.0 found.1)))
          ])
          (λ item m. let found = row_of_item stored item m in elim (member_from_placed place_cmp r left found.0 found.1) [
            | inl e ↦ inl (ap item_of e ∙ found.2)
            | inr k ↦ inr (left_member item (subst (Member (items_of left)) found.2 (member_item left found.0 k)))
          ])
          ∙ ap (λ l. newest (items_of l)) (live-uncovered rows r is_live uncovered)
