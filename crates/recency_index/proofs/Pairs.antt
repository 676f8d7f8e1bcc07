-- Pairs of slots and items that rise by place and by recency: their items are the most recent first, one at each place.
use Rattle.std.proofs.Common.{◌≡◌, ◌≢◌, inl, inr, ℕ, List, [], ◌∷◌, ◌++◌, true, false, cond, not, filter, Contains, All, refl, sym, ap, ap₂, ◌∙◌, subst, Ordering, Less, Equal}
use Rattle.std.specs.List.{AllByRecursion}
use Rattle.std.specs.List.Sorted.{IsStrictlySortedBy}
use Rattle.std.specs.Cmp.{IsTotalOrder, Equal-is}
use Rattle.std.proofs.lemmas.Cmp.{on_total, tied_back, tied_itself}
use Rattle.std.proofs.lemmas.Bool.{false_from_ne_true, false≢true}
use Rattle.std.proofs.lemmas.List.Elements.{filter-append, All-contains, All-weaker, All-contains_itself}
use Rattle.willow_entry.proofs.Members.{Member, contains_from_member, member_from_contains, member_append_left, member_append_right, member_append_cases, any_false, false_of_any}
use Rattle.willow_entry.proofs.Rising.{all_member, Less≢Equal}
use Rattle.willow_entry.specs.Row.{subspace_path_cmp}
use Rattle.willow_entry.proofs.Ranks.{subspace_path_total}
use Rattle.link_arena.specs.Arena.{Arena, AreTwoOrders, IsOneMore}
use Rattle.link_arena.specs.declared.twice.Order.TheVariants.{Key, Rank}
use Rattle.recency_index.specs.declared.ranked.Ranked.{Ranked}
use Rattle.recency_index.specs.Recency.{recency_cmp, newest, AreNewestFirst, is_at, has_at, without_at}
use Rattle.recency_index.specs.Orders.{place_cmp, ranked_cmp}
use Rattle.recency_index.specs.OrderLaws.{ranked_total}
use Rattle.recency_index.specs.Items.{items_in}
use Rattle.recency_index.proofs.Order.{recency_total}
use Rattle.recency_index.proofs.Newest.{newest_of}
use Rattle.recency_index.proofs.Without.{filter_all}

-- ---- what rises

module _ {X : Type 0} (cmp : X → X → Ordering) (total : IsTotalOrder cmp) where
  -- one item does not tie with those behind it
  apart_behind : (x : X) (ys : List X) (y : X) → AllByRecursion (λ z. cmp x z ≡ Less) ys → Member ys y → cmp x y ≡ Equal → ⊥
  apart_behind x ys y below m tied = Less≢Equal (sym (all_member cmp (λ z. cmp x z ≡ Less) ys below y m) ∙ tied)

  -- two items that tie are one
  tied_is_one : (xs : List X) → IsStrictlySortedBy cmp xs → (a b : X) → Member xs a → Member xs b → cmp a b ≡ Equal → a ≡ b
  unfolding IsStrictlySortedBy
  tied_is_one [] rises a b ma mb tied = absurd ma
  tied_is_one (x ∷ xs) rises a b (inl p) (inl q) tied = sym p ∙ q
  tied_is_one (x ∷ xs) rises a b (inl p) (inr n) tied = absurd (apart_behind x xs b rises.0 n (ap (λ z. cmp z b) p ∙ tied))
  tied_is_one (x ∷ xs) rises a b (inr m) (inl q) tied = absurd (apart_behind x xs a rises.0 m (ap (λ z. cmp z a) q ∙ tied_back total a b tied))
  tied_is_one (x ∷ xs) rises a b (inr m) (inr n) tied = tied_is_one xs rises.1 a b m n tied

  -- an item does not tie with those beside it
  apart_beside : (first last : List X) (x y : X) → IsStrictlySortedBy cmp (first ++ x ∷ last) → Member (first ++ last) y → cmp x y ≡ Equal → ⊥
  unfolding IsStrictlySortedBy
  apart_beside [] last x y rises m tied = apart_behind x last y rises.0 m tied
  apart_beside (z ∷ first) last x y rises (inl e) tied = apart_behind z (first ++ x ∷ last) x rises.0 (member_append_right first (x ∷ last) x (inl refl)) (ap (λ w. cmp w x) e ∙ tied_back total x y tied)
  apart_beside (z ∷ first) last x y rises (inr m) tied = apart_beside first last x y rises.1 m tied

-- ---- the items of pairs

items_append : (xs ys : List (ℕ × Ranked)) → items_in (xs ++ ys) ≡ items_in xs ++ items_in ys
items_append [] ys = refl
items_append (x ∷ xs) ys = ap (λ l. x.1 ∷ l) (items_append xs ys)

item_there : (xs : List (ℕ × Ranked)) (pair : ℕ × Ranked) → Member xs pair → Member (items_in xs) pair.1
item_there [] pair m = absurd m
item_there (x ∷ xs) pair (inl e) = inl (ap (λ p. p.1) e)
item_there (x ∷ xs) pair (inr m) = inr (item_there xs pair m)

-- the slot of an item
slot_there : (xs : List (ℕ × Ranked)) (item : Ranked) → Member (items_in xs) item → (slot : ℕ) × Member xs (slot, item)
slot_there [] item m = absurd m
slot_there (x ∷ xs) item (inl e) = (x.0, inl (ap (λ i. (x.0, i)) e))
slot_there (x ∷ xs) item (inr m) = let below = slot_there xs item m in (below.0, inr below.1)

all_items : (P : Ranked → Type 0) (xs : List (ℕ × Ranked)) → AllByRecursion (λ (pair : ℕ × Ranked). P pair.1) xs → AllByRecursion P (items_in xs)
all_items P [] all = tt
all_items P (x ∷ xs) all = (all.0, all_items P xs all.1)

items_rise : (xs : List (ℕ × Ranked)) → IsStrictlySortedBy (λ (a b : ℕ × Ranked). recency_cmp a.1 b.1) xs → AreNewestFirst (items_in xs)
unfolding IsStrictlySortedBy
items_rise [] rises = tt
items_rise (x ∷ xs) rises = (all_items (λ item. recency_cmp x.1 item ≡ Less) xs rises.0, items_rise xs rises.1)

pair_total : IsTotalOrder (λ (p q : ℕ × Ranked). place_cmp p.1 q.1)
pair_total = on_total (λ (pair : ℕ × Ranked). pair.1) (ranked_total Key)

-- ---- an arena of items

module _ (arena : Arena Ranked) (orders : AreTwoOrders ranked_cmp arena) where
  pub newest_first : AreNewestFirst (items_in arena.by_rank)
  newest_first = items_rise arena.by_rank (orders.rises Rank)

  in_key : (pair : ℕ × Ranked) → Member arena.by_rank pair → Contains arena.by_key pair
  in_key pair m = (orders.same pair).1 (contains_from_member arena.by_rank pair m)

  in_rank : (pair : ℕ × Ranked) → Contains arena.by_key pair → Member arena.by_rank pair
  in_rank pair c = member_from_contains arena.by_rank pair ((orders.same pair).0 c)

  -- two items at one place are one
  pub one_place : (a b : Ranked) → Member (items_in arena.by_rank) a → Member (items_in arena.by_rank) b → place_cmp a b ≡ Equal → a ≡ b
  one_place a b ma mb tied =
      let first = slot_there arena.by_rank a ma in
      let second = slot_there arena.by_rank b mb in
      let key = λ (pair : ℕ × Ranked) (m : Member arena.by_rank pair). member_from_contains arena.by_key pair (in_key pair m) in
      ap (λ pair. pair.1) (tied_is_one (λ (p q : ℕ × Ranked). place_cmp p.1 q.1) pair_total arena.by_key (orders.rises Key) (first.0, a) (second.0, b) (key (first.0, a) first.1) (key (second.0, b) second.1) tied)

  -- where no item's place is that of the probe, none stands there
  pub none_there : (probe : Ranked) → All (λ (pair : ℕ × Ranked). place_cmp probe pair.1 ≢ Equal) arena.by_key → has_at probe.subspace probe.path (items_in arena.by_rank) ≡ false
  none_there probe never = any_false (is_at probe.subspace probe.path) (items_in arena.by_rank) (λ item m.
      let found = slot_there arena.by_rank item m in
      false_from_ne_true (is_at probe.subspace probe.path item) (λ t.
      All-contains (λ (pair : ℕ × Ranked). place_cmp probe pair.1 ≢ Equal) arena.by_key (found.0, item) never (in_key (found.0, item) found.1)
      (tied_back subspace_path_total (item.subspace, item.path) (probe.subspace, probe.path) ((Equal-is (place_cmp item probe)).0 t))))

  -- where no item stands at the place of another one, its key is no item's
  pub key_free : (item : Ranked) → has_at item.subspace item.path (items_in arena.by_rank) ≡ false → All (λ (pair : ℕ × Ranked). place_cmp item pair.1 ≢ Equal) arena.by_key
  key_free item free =
      All-weaker (λ pair. Contains arena.by_key pair) (λ (pair : ℕ × Ranked). place_cmp item pair.1 ≢ Equal)
      (λ pair c tied. false≢true (sym (false_of_any (is_at item.subspace item.path) (items_in arena.by_rank) free pair.1 (item_there arena.by_rank pair (in_rank pair c)))
      ∙ (Equal-is (place_cmp pair.1 item)).1 (tied_back subspace_path_total (item.subspace, item.path) (pair.1.subspace, pair.1.path) tied)))
      arena.by_key (All-contains_itself arena.by_key)

-- two orders stay where both lists do
pub same_orders : (old new : Arena Ranked) → new.by_key ≡ old.by_key → new.by_rank ≡ old.by_rank → AreTwoOrders ranked_cmp old → AreTwoOrders ranked_cmp new
same_orders old new keys ranks orders =
    let Lists : Type 0 = List (ℕ × Ranked) × List (ℕ × Ranked) in
    let moved = subst (λ (lists : Lists). AreTwoOrders ranked_cmp (record { by_key = lists.0; by_rank = lists.1; spare = old.spare })) (λ i. (sym keys i, sym ranks i)) orders in
    record {
      rises = elim [ Key ↦ moved.rises Key | Rank ↦ moved.rises Rank ];
      same = moved.same;
      apart = moved.apart;
      sizes = moved.sizes;
    }

-- where no item stands at a place, none is left out there
pub all_left : (subspace : List ℕ) (path : List (List ℕ)) (items : List Ranked) → has_at subspace path items ≡ false → items ≡ without_at subspace path items
all_left subspace path items none = sym (filter_all (λ item. not (is_at subspace path item)) items (λ item m. ap not (false_of_any (is_at subspace path) items none item m)))

module _ (few more : Arena Ranked) (slot : ℕ) (item : Ranked) (orders : AreTwoOrders ranked_cmp more) (one : IsOneMore few.by_rank (slot, item) more.by_rank) where
  few_is : items_in few.by_rank ≡ items_in one.first ++ items_in one.last
  few_is = ap items_in one.before ∙ items_append one.first one.last

  more_is : items_in more.by_rank ≡ items_in one.first ++ item ∷ items_in one.last
  more_is = ap items_in one.after ∙ items_append one.first ((slot, item) ∷ one.last)

  -- an item that is put in stands in its place
  pub newest_with : items_in more.by_rank ≡ newest (item ∷ items_in few.by_rank)
  newest_with =
      newest_of (items_in more.by_rank) (item ∷ items_in few.by_rank) (newest_first more orders)
      (λ z m. elim (member_append_cases (items_in one.first) (item ∷ items_in one.last) z (subst (λ l. Member l z) more_is m)) [
        | inl n ↦ inr (subst (λ l. Member l z) (sym few_is) (member_append_left (items_in one.first) (items_in one.last) z n))
        | inr n ↦ elim n [ inl e ↦ inl e | inr k ↦ inr (subst (λ l. Member l z) (sym few_is) (member_append_right (items_in one.first) (items_in one.last) z k)) ]
      ])
      (λ z m. subst (λ l. Member l z) (sym more_is) (elim m [
        | inl e ↦ member_append_right (items_in one.first) (item ∷ items_in one.last) z (inl e)
        | inr n ↦ elim (member_append_cases (items_in one.first) (items_in one.last) z (subst (λ l. Member l z) few_is n)) [
          | inl k ↦ member_append_left (items_in one.first) (item ∷ items_in one.last) z k
          | inr k ↦ member_append_right (items_in one.first) (item ∷ items_in one.last) z (inr k)
        ]
      ]))

  -- the item is one of those before, and stands at its place
  pub was_there : Member (items_in more.by_rank) item
  was_there = subst (λ l. Member l item) (sym more_is) (member_append_right (items_in one.first) (item ∷ items_in one.last) item (inl refl))

  module _ (subspace : List ℕ) (path : List (List ℕ)) (here : is_at subspace path item ≡ true) where
    -- no other item stands there
    kept : (z : Ranked) → Member (items_in one.first ++ items_in one.last) z → not (is_at subspace path z) ≡ true
    kept z m = ap not (false_from_ne_true (is_at subspace path z) (λ t.
        let back = tied_back subspace_path_total (z.subspace, z.path) (subspace, path) ((Equal-is (subspace_path_cmp (z.subspace, z.path) (subspace, path))).0 t) in
        let tied : place_cmp item z ≡ Equal = subspace_path_total.congr (item.subspace, item.path) (subspace, path) (z.subspace, z.path) ((Equal-is (subspace_path_cmp (item.subspace, item.path) (subspace, path))).0 here) ∙ back in
        let beside : Member (items_in one.first ++ item ∷ items_in one.last) z = elim (member_append_cases (items_in one.first) (items_in one.last) z m) [
          | inl k ↦ member_append_left (items_in one.first) (item ∷ items_in one.last) z k
          | inr k ↦ member_append_right (items_in one.first) (item ∷ items_in one.last) z (inr k)
        ] in
        let same = one_place more orders item z was_there (subst (λ l. Member l z) (sym more_is) beside) tied in
        apart_beside recency_cmp recency_total (items_in one.first) (items_in one.last) item z (subst AreNewestFirst more_is (newest_first more orders)) m
        (ap (recency_cmp item) (sym same) ∙ tied_itself recency_total item)))

    -- an item that is taken out is left out
    pub left_out : items_in few.by_rank ≡ without_at subspace path (items_in more.by_rank)
    left_out =
        let p = λ (z : Ranked). not (is_at subspace path z) in
        let first = items_in one.first in
        let last = items_in one.last in
        few_is ∙ sym (
        ap (filter p) more_is
        ∙ filter-append p first (item ∷ last)
        ∙ ap (λ b. filter p first ++ cond b (item ∷ filter p last) (filter p last)) (ap not here)
        ∙ ap₂ (λ (a b : List Ranked). a ++ b) (filter_all p first (λ z m. kept z (member_append_left first last z m))) (filter_all p last (λ z m. kept z (member_append_right first last z m)))
        )
