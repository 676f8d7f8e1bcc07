-- The rows that limits leave are those that are no less recent than the last of them.
use Rattle.std.proofs.Common.{◌≡◌, ℕ, zero, suc, ◌+◌, inl, inr, Bool, true, false, not, ◌&&◌, cond, List, [], ◌∷◌, ◌++◌, length, map, take, filter, Option, All, Contains, refl, sym, ap, ◌∙◌, subst, Ordering, Less, Equal}
use Rattle.std.specs.List.Sorted.{IsStrictlySortedBy}
use Rattle.std.specs.Cmp.{IsTotalOrder}
use Rattle.std.specs.Ordering.{is_gt, ordering_reverse}
use Rattle.std.proofs.lemmas.Bool.{false≢true, not-true}
use Rattle.std.proofs.lemmas.Cmp.{tied_itself, tied_back}
use Rattle.std.proofs.lemmas.List.Elements.{All-contains}
use Rattle.std.proofs.lemmas.List.Kept.{IsStrictlySortedBy-filter}
use Rattle.willow_entry.specs.Pruning.{rising}
use Rattle.willow_entry.specs.Row.{RowValue, AreLive, IsRising, place_cmp, subspace_path_cmp, live}
use Rattle.willow_entry.proofs.Between.{rising_live}
use Rattle.willow_entry.proofs.Members.{Member, contains_from_member, member_from_contains, member_filter, filter_member}
use Rattle.willow_entry.proofs.Ranks.{place_total, place-in_one_namespace, subspace_path_total}
use Rattle.willow_entry.proofs.Rising.{all_member, rising-rises, same_rising, member_from_rising, member_rising, Less≢Equal}
use Rattle.willow_entry.proofs.RowLaws.{IsLive-live, live-only}
use Rattle.recency_index.specs.declared.ranked.Ranked.{Ranked}
use Rattle.recency_index.specs.Recency.{ranked_of, recency_cmp, newest}
use Rattle.recency_index.specs.Rows.{items_of, row_recency_cmp, newest_rows}
use Rattle.recency_index.proofs.Order.{recency_total, recency_tie}
use Rattle.recency_index.proofs.Rows.{row_total, newest_items}
use Rattle.area_interest.specs.Interest.{is_within, front, latest}
use Rattle.area_interest.specs.Kept.{item_size, is_kept}
use Rattle.area_interest.proofs.Fronts.{front_is_take}
use Rattle.area_interest.proofs.Lists.{taken}

no_items : (rows : List RowValue) → items_of rows ≡ [] → rows ≡ []
no_items [] e = refl
no_items (r ∷ rows) e = absurd cc

-- ---- a front of a rising list, by its last item

module _ {X K : Type 0} (f : X → K) (cmp : K → K → Ordering) (total : IsTotalOrder cmp) where
  abbrev by : X → X → Ordering
  by x y = cmp (f x) (f y)

  -- the test tells the first k items from the others
  record Parts (xs : List X) (k : ℕ) (last : K) : Type 0 where
    inside : (x : X) → Member (take k xs) x → is_gt (cmp (f x) last) ≡ false
    only : (x : X) → Member xs x → is_gt (cmp (f x) last) ≡ false → Member (take k xs) x

  -- the last item of a front is one of it
  last_there : (xs : List X) (k : ℕ) (before : List K) (last : K) → map f (take k xs) ≡ before ++ last ∷ [] → (x : X) × Member xs x × (f x ≡ last)
  last_there xs zero [] last e = absurd cc
  last_there xs zero (b ∷ before) last e = absurd cc
  last_there [] (suc k) [] last e = absurd cc
  last_there [] (suc k) (b ∷ before) last e = absurd cc
  last_there (x ∷ xs) (suc k) [] last e = let same : f x ≡ last = cc in (x, inl refl, same)
  last_there (x ∷ xs) (suc k) (b ∷ before) last e =
      let rest : map f (take k xs) ≡ before ++ last ∷ [] = cc in
      let below = last_there xs k before last rest in
      (below.0, inr below.1, below.2)

  none_taken : (xs : List X) (k : ℕ) → map f (take k xs) ≡ [] → (x : X) → Member (take k xs) x → ⊥
  none_taken xs zero e x m = m
  none_taken [] (suc k) e x m = m
  none_taken (y ∷ xs) (suc k) e x m = absurd cc

  parts : (xs : List X) → IsStrictlySortedBy by xs → (k : ℕ) (before : List K) (last : K) → map f (take k xs) ≡ before ++ last ∷ [] → Parts xs k last
  unfolding IsStrictlySortedBy
  parts xs up zero [] last e = absurd cc
  parts xs up zero (b ∷ before) last e = absurd cc
  parts [] up (suc k) [] last e = absurd cc
  parts [] up (suc k) (b ∷ before) last e = absurd cc
  parts (x ∷ xs) up (suc k) [] last e =
      let same : f x ≡ last = cc in
      let rest : map f (take k xs) ≡ [] = cc in
      record {
        inside = λ z m. elim m [
          | inl q ↦ ap is_gt (ap (λ w. cmp (f w) last) (sym q) ∙ ap (λ w. cmp w last) same ∙ tied_itself total last)
          | inr n ↦ absurd (none_taken xs k rest z n)
        ];
        only = λ z m below. elim m [
          | inl q ↦ inl q
          | inr n ↦ absurd (false≢true (sym below ∙ ap is_gt (total.antisymm (f z) last ∙ ap ordering_reverse (ap (λ w. cmp w (f z)) (sym same) ∙ all_member by (λ w. cmp (f x) (f w) ≡ Less) xs up.0 z n))))
        ];
      }
  parts (x ∷ xs) up (suc k) (b ∷ before) last e =
      let rest : map f (take k xs) ≡ before ++ last ∷ [] = cc in
      let below = parts xs up.1 k before last rest in
      let end = last_there xs k before last rest in
      record {
        inside = λ z m. elim m [
          | inl q ↦ ap is_gt (ap (λ w. cmp (f w) last) (sym q) ∙ ap (cmp (f x)) (sym end.2) ∙ all_member by (λ w. cmp (f x) (f w) ≡ Less) xs up.0 end.0 end.1)
          | inr n ↦ below.inside z n
        ];
        only = λ z m low. elim m [ inl q ↦ inl q | inr n ↦ inr (below.only z n low) ];
      }

-- ---- live rows

-- rows at one place are one
pub tied_is_one : (xs : List RowValue) → IsRising xs → (a b : RowValue) → Member xs a → Member xs b → place_cmp a b ≡ Equal → a ≡ b
unfolding IsStrictlySortedBy
tied_is_one [] up a b ma mb tied = absurd ma
tied_is_one (x ∷ xs) up a b (inl p) (inl q) tied = sym p ∙ q
tied_is_one (x ∷ xs) up a b (inl p) (inr n) tied = absurd (Less≢Equal (sym (all_member place_cmp (λ z. place_cmp x z ≡ Less) xs up.0 b n) ∙ ap (λ z. place_cmp z b) p ∙ tied))
tied_is_one (x ∷ xs) up a b (inr m) (inl q) tied = absurd (Less≢Equal (sym (all_member place_cmp (λ z. place_cmp x z ≡ Less) xs up.0 a m) ∙ ap (λ z. place_cmp z a) q ∙ tied_back place_total a b tied))
tied_is_one (x ∷ xs) up a b (inr m) (inr n) tied = tied_is_one xs up.1 a b m n tied

-- rising rows of live ones are live
pub live_among : (rows : List RowValue) → AreLive rows → (kept : List RowValue) → IsRising kept → ((r : RowValue) → Member kept r → Member rows r) → AreLive kept
live_among rows is kept up there = sym (live-only kept kept (record {
  is_rising = up;
  members = λ r. (
    (λ c. (c, λ s d dominates. (((IsLive-live rows).members r).0 (subst (λ l. Contains l r) (sym is) (contains_from_member rows r (there r (member_from_contains kept r c))))).1 s (contains_from_member rows s (there s (member_from_contains kept s d))) dominates)),
    (λ k. k.0),
  );
}))

-- so are those that pass a test
pub live_part : (rows : List RowValue) → AreLive rows → (p : RowValue → Bool) → AreLive (filter p rows)
live_part rows is p = live_among rows is (filter p rows) (IsStrictlySortedBy-filter place_cmp p rows (rising_live rows is)) (λ r m. (filter_member p rows r m).0)

module _ (namespace : List ℕ) (rows : List RowValue) (is : AreLive rows) (own : All (λ (r : RowValue). r.entry.namespace ≡ namespace) rows) where
  -- those that tie by recency are one
  pub apart : (r s : RowValue) → Member rows r → Member rows s → row_recency_cmp r s ≡ Equal → r ≡ s
  apart r s m n tied =
      let same = recency_tie (ranked_of r.entry) (ranked_of s.entry) tied in
      let spaces : (t : RowValue) → Member rows t → t.entry.namespace ≡ namespace = λ t k. All-contains (λ (u : RowValue). u.entry.namespace ≡ namespace) rows t own (contains_from_member rows t k) in
      tied_is_one rows (rising_live rows is) r s m n
      (place-in_one_namespace r s (spaces r m ∙ sym (spaces s n))
      ∙ ap (λ (i : Ranked). subspace_path_cmp (r.entry.subspace, r.entry.path) (i.subspace, i.path)) (sym same)
      ∙ tied_itself subspace_path_total (r.entry.subspace, r.entry.path))

  module _ (count bytes : Option ℕ) where
    abbrev size : RowValue → ℕ
    size r = r.entry.length

    abbrev left : List RowValue
    left = latest count bytes rows

    left_is : left ≡ take (length left) (newest_rows rows)
    left_is = front_is_take size count bytes 0 0 (newest_rows rows)

    -- the items of what is left are what is left of the items
    items_left : (n s : ℕ) (xs : List RowValue) → items_of (front size count bytes n s xs) ≡ front item_size count bytes n s (items_of xs)
    items_left n s [] = refl
    items_left n s (x ∷ xs) = step (is_within count (n + 1) && is_within bytes (s + x.entry.length)) (items_left (n + 1) (s + x.entry.length) xs) where
      step : (b : Bool) → items_of (front size count bytes (n + 1) (s + x.entry.length) xs) ≡ front item_size count bytes (n + 1) (s + x.entry.length) (items_of xs)
          → items_of (cond b (x ∷ front size count bytes (n + 1) (s + x.entry.length) xs) []) ≡ cond b (ranked_of x.entry ∷ front item_size count bytes (n + 1) (s + x.entry.length) (items_of xs)) []
      step true h = ap (λ l. ranked_of x.entry ∷ l) h
      step false h = refl

    all_items : items_of left ≡ front item_size count bytes 0 0 (newest (items_of rows))
    all_items = items_left 0 0 (newest_rows rows) ∙ ap (front item_size count bytes 0 0) (newest_items rows)

    pub in_left : (r : RowValue) → Member left r → Member rows r
    in_left r m = member_from_rising row_recency_cmp rows r (taken (newest_rows rows) (length left) r (subst (λ l. Member l r) left_is m))

    left_apart : (r s : RowValue) → Member left r → Member left s → place_cmp r s ≡ Equal → r ≡ s
    left_apart r s m n tied = tied_is_one rows (rising_live rows is) r s (in_left r m) (in_left s n) tied

    -- where none is left
    pub none_left : front item_size count bytes 0 0 (newest (items_of rows)) ≡ [] → rising place_cmp (latest count bytes rows) ≡ []
    none_left none = ap (rising place_cmp) (no_items left (all_items ∙ none))

    -- where this one is the last
    module _ (last : Ranked) (before : List Ranked) (ends : front item_size count bytes 0 0 (newest (items_of rows)) ≡ before ++ last ∷ []) where
      tells : Parts (λ (r : RowValue). ranked_of r.entry) recency_cmp recency_total (newest_rows rows) (length left) last
      tells = parts (λ (r : RowValue). ranked_of r.entry) recency_cmp recency_total (newest_rows rows) (rising-rises row_recency_cmp row_total rows) (length left) before last
          (ap items_of (sym left_is) ∙ all_items ∙ ends)

      kept_left : (r : RowValue) → Member (filter (is_kept last) rows) r → Member (rising place_cmp left) r
      kept_left r m =
          let k = filter_member (is_kept last) rows r m in
          member_rising place_cmp left left_apart r
          (subst (λ l. Member l r) (sym left_is) (tells.only r (member_rising row_recency_cmp rows apart r k.0) (not-true (is_gt (recency_cmp (ranked_of r.entry) last)) k.1)))

      left_kept : (r : RowValue) → Member (rising place_cmp left) r → Member (filter (is_kept last) rows) r
      left_kept r m =
          let n = member_from_rising place_cmp left r m in
          member_filter (is_kept last) rows r (in_left r n) (ap not (tells.inside r (subst (λ l. Member l r) left_is n)))

      pub all_kept : live (filter (is_kept last) rows) ≡ rising place_cmp (latest count bytes rows)
      all_kept =
          live_part rows is (is_kept last)
          ∙ same_rising place_cmp place_total (filter (is_kept last) rows) (rising place_cmp left)
          (IsStrictlySortedBy-filter place_cmp (is_kept last) rows (rising_live rows is)) (rising-rises place_cmp place_total left) kept_left left_kept
