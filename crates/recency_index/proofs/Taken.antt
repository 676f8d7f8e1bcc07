-- An item that is taken out of its slot, and one that is counted from the first.
use Rattle.std.proofs.Common.{◌≡◌, ℕ, zero, suc, ◌+◌, ◌<◌, ◌≤◌, List, [], ◌∷◌, ◌++◌, length, get_or, take, not, true, Contains, All, Option, Some, None, is_some, slice_get, MatchOption, Bor, inl, inr, refl, sym, ap, ◌∙◌, subst, Equal, arith, add-one}
use Rattle.std.specs.Option.{IfSome}
use Rattle.std.specs.List.{IsDistinct}
use Rattle.std.specs.Ordering.{eq_by_cmp}
use Rattle.std.specs.Cmp.{Equal-is}
use Rattle.std.proofs.Math.Seq.{take-suc}
use Rattle.std.proofs.lemmas.Cmp.{tied_back}
use Rattle.std.proofs.lemmas.Option.{slice_get_past}
use Rattle.willow_entry.proofs.Members.{Member, true_of_any, member_filter, member_from_contains, contains_from_member}
use Rattle.willow_entry.proofs.Ranks.{subspace_path_total}
use Rattle.link_arena.specs.Arena.{Arena, AreTwoOrders, IsOneMore, Holds, IsVacant, slots_in}
use Rattle.recency_index.specs.declared.ranked.Ranked.{Ranked}
use Rattle.recency_index.specs.Recency.{recency_cmp, is_at, has_at, is_among, without, without_at, IsItemAt}
use Rattle.recency_index.specs.Orders.{place_cmp, ranked_cmp}
use Rattle.recency_index.specs.Items.{items_in}
use Rattle.recency_index.proofs.Pairs.{was_there, left_out, one_place}
use Rattle.recency_index.proofs.Without.{without_none, without_more, without_one, not_before}

-- the item at the place of a probe is taken out
pub record IsTaken (old new : Arena Ranked) (probe : Ranked) (taken : Option Ranked) : Type 0 where
  pub there : is_some taken ≡ true
  pub was : has_at probe.subspace probe.path (items_in old.by_rank) ≡ true
  pub left : items_in new.by_rank ≡ without_at probe.subspace probe.path (items_in old.by_rank)

pub taken_at : (old new : Arena Ranked) (orders : AreTwoOrders ranked_cmp old) (probe : Ranked) (slot : ℕ) → (item : Ranked) × Holds old slot item × (place_cmp probe item ≡ Equal) → (taken : Option Ranked)
    → MatchOption taken (IsVacant old slot) (λ item. Holds old slot item) → IfSome taken (λ item. IsOneMore new.by_rank (slot, item) old.by_rank) → IsTaken old new probe taken
taken_at old new orders probe slot found None vacant one = absurd (vacant found.0 found.1)
taken_at old new orders probe slot found (Some item) holds one =
    let same : found.0 ≡ item = orders.apart slot found.0 item found.1 holds in
    let tied : place_cmp item probe ≡ Equal = tied_back subspace_path_total (probe.subspace, probe.path) (item.subspace, item.path) (ap (place_cmp probe) (sym same) ∙ found.2) in
    let here : is_at probe.subspace probe.path item ≡ true = (Equal-is (place_cmp item probe)).1 tied in
    record {
      there = refl;
      was = true_of_any (is_at probe.subspace probe.path) (items_in old.by_rank) item (was_there new old slot item orders one) here;
      left = left_out new old slot item orders one probe.subspace probe.path here;
    }

-- ---- counted from the first

-- the slot at a place holds the item at that place
pub record StandsAt (arena : Arena Ranked) (n slot : ℕ) : Type 0 where
  pub item : Ranked
  pub holds : Holds arena slot item
  pub nth : slice_get (items_in arena.by_rank) n ≡ Some item

pair_at : (xs : List (ℕ × Ranked)) (n slot : ℕ) → slice_get (slots_in xs) n ≡ Some slot → (item : Ranked) × Contains xs (slot, item) × (slice_get (items_in xs) n ≡ Some item)
pair_at [] n slot e = absurd cc
pair_at (x ∷ xs) zero slot e = let same : x.0 ≡ slot = cc in (x.1, (0, omega arith, ap (λ s. (s, x.1)) same), refl)
pair_at (x ∷ xs) (suc n) slot e = let below = pair_at xs n slot e in (below.0, (suc below.1.0, omega (arith, below.1.1), below.1.2), below.2)

pub stands_at : (arena : Arena Ranked) → AreTwoOrders ranked_cmp arena → (n slot : ℕ) → slice_get (slots_in arena.by_rank) n ≡ Some slot → StandsAt arena n slot
stands_at arena orders n slot e = let found = pair_at arena.by_rank n slot e in record { item = found.0; holds = (orders.same (slot, found.0)).1 found.1; nth = found.2 }

-- the item of the slot at a place is the item at that place
pub nth_item : (arena : Arena Ranked) → AreTwoOrders ranked_cmp arena → (n slot : ℕ) → slice_get (slots_in arena.by_rank) n ≡ Some slot → (item : Option (Bor Ranked))
    → MatchOption item (IsVacant arena slot) (λ item. Holds arena slot item.now) → MatchOption item (length (items_in arena.by_rank) ≤ n) (λ item. slice_get (items_in arena.by_rank) n ≡ Some item.now)
nth_item arena orders n slot e None vacant = let at = stands_at arena orders n slot e in absurd (vacant at.item at.holds)
nth_item arena orders n slot e (Some item) holds = let at = stands_at arena orders n slot e in at.nth ∙ ap Some (orders.apart slot at.item item.now at.holds holds)

none_at : (xs : List (ℕ × Ranked)) (n : ℕ) → slice_get (slots_in xs) n ≡ None → length (items_in xs) ≤ n
none_at [] n e = omega arith
none_at (x ∷ xs) zero e = absurd cc
none_at (x ∷ xs) (suc n) e = omega (arith, none_at xs n e)

pub no_item : (arena : Arena Ranked) (n : ℕ) → slice_get (slots_in arena.by_rank) n ≡ None → length (items_in arena.by_rank) ≤ n
no_item arena n e = none_at arena.by_rank n e

-- behind a place where no slot is there is none
pub none_behind : (xs : List ℕ) (i n : ℕ) → i ≤ n → slice_get xs i ≡ None → slice_get xs n ≡ None
none_behind [] i n le e = slice_get_past [] n (omega arith)
none_behind (x ∷ xs) zero n le e = absurd cc
none_behind (x ∷ xs) (suc i) zero le e = absurd (omega arith)
none_behind (x ∷ xs) (suc i) (suc n) le e = none_behind xs i n (omega arith) e

-- ---- several are taken out

-- the first n items are taken out
pub record AreTakenSoFar (old now : Arena Ranked) (gone : List Ranked) (n : ℕ) : Type 0 where
  pub left : items_in now.by_rank ≡ without (take n gone) (items_in old.by_rank)
  pub orders : AreTwoOrders ranked_cmp now
  pub spare : old.spare ≤ now.spare

pub none_taken : (old : Arena Ranked) (gone : List Ranked) → AreTwoOrders ranked_cmp old → AreTakenSoFar old old gone 0
none_taken old gone orders = record { left = without_none (items_in old.by_rank); orders = orders; spare = omega arith }

-- the next of distinct items, which were all there, is there still
pub next_there : (old now : Arena Ranked) (gone : List Ranked) (n : ℕ) (item : Ranked) → All (λ g. Contains (items_in old.by_rank) g) gone → IsDistinct (eq_by_cmp recency_cmp) gone → n < length gone → item ≡ get_or gone n item
    → AreTakenSoFar old now gone n → Member (items_in now.by_rank) item
next_there old now gone n item held once within is sofar =
    let there : Contains (items_in old.by_rank) item = subst (λ g. Contains (items_in old.by_rank) g) (sym is) (held n item within) in
    subst (λ l. Member l item) (sym sofar.left)
    (member_filter (λ i. not (is_among (take n gone) i)) (items_in old.by_rank) item (member_from_contains (items_in old.by_rank) item there) (ap not (not_before gone n item once within is)))

pub one_more_taken : (old now next : Arena Ranked) (gone : List Ranked) (n : ℕ) (item : Ranked) → All (λ g. Contains (items_in old.by_rank) g) gone → IsDistinct (eq_by_cmp recency_cmp) gone → n < length gone → item ≡ get_or gone n item
    → AreTakenSoFar old now gone n → items_in next.by_rank ≡ without_at item.subspace item.path (items_in now.by_rank) → AreTwoOrders ranked_cmp next → now.spare ≤ next.spare → AreTakenSoFar old next gone (n + 1)
one_more_taken old now next gone n item held once within is sofar left orders spare =
    let there = next_there old now gone n item held once within is sofar in
    let upto : take n gone ++ item ∷ [] ≡ take (n + 1) gone = ap (λ y. take n gone ++ y ∷ []) is ∙ sym (ap (λ m. take m gone) (add-one n) ∙ take-suc gone n item within) in
    record {
      left =
          left
          ∙ without_one item (items_in now.by_rank) (λ y m tied. one_place now sofar.orders y item m there tied)
          ∙ ap (without (item ∷ [])) sofar.left
          ∙ without_more (take n gone) item (items_in old.by_rank)
          ∙ ap (λ l. without l (items_in old.by_rank)) upto;
      orders = orders;
      spare = omega (arith, sofar.spare);
    }

-- ---- from slot to slot

slot_of_pair : (xs : List (ℕ × Ranked)) (slot : ℕ) (item : Ranked) → Member xs (slot, item) → Member (slots_in xs) slot
slot_of_pair [] slot item m = absurd m
slot_of_pair (x ∷ xs) slot item (inl e) = inl (ap (λ p. p.0) e)
slot_of_pair (x ∷ xs) slot item (inr m) = inr (slot_of_pair xs slot item m)

pair_of_slot : (xs : List (ℕ × Ranked)) (slot : ℕ) → Member (slots_in xs) slot → (item : Ranked) × Member xs (slot, item)
pair_of_slot [] slot m = absurd m
pair_of_slot (x ∷ xs) slot (inl e) = (x.1, inl (ap (λ s. (s, x.1)) e))
pair_of_slot (x ∷ xs) slot (inr m) = let below = pair_of_slot xs slot m in (below.0, inr below.1)

-- a slot of the order holds an item
pub slot_holds : (arena : Arena Ranked) → AreTwoOrders ranked_cmp arena → (slot : ℕ) → Contains (slots_in arena.by_rank) slot → (item : Ranked) × Holds arena slot item
slot_holds arena orders slot c =
    let found = pair_of_slot arena.by_rank slot (member_from_contains (slots_in arena.by_rank) slot c) in
    (found.0, (orders.same (slot, found.0)).1 (contains_from_member arena.by_rank (slot, found.0) found.1))

-- what a slot holds is the item at its place
pub item_of_slot : (arena : Arena Ranked) → AreTwoOrders ranked_cmp arena → (slot : ℕ) (item : Option (Bor Ranked)) → MatchOption item (IsVacant arena slot) (λ item. Holds arena slot item.now)
    → MatchOption item (Contains (slots_in arena.by_rank) slot → ⊥) (λ item. IsItemAt (record { items = items_in arena.by_rank; slots = slots_in arena.by_rank; spare = arena.spare }) slot item.now)
item_of_slot arena orders slot None vacant = λ c. let at = slot_holds arena orders slot c in vacant at.0 at.1
item_of_slot arena orders slot (Some item) holds = record {
  held = contains_from_member (slots_in arena.by_rank) slot (slot_of_pair arena.by_rank slot item.now (member_from_contains arena.by_rank (slot, item.now) ((orders.same (slot, item.now)).0 holds)));
  stands = λ n e. nth_item arena orders n slot e (Some item) holds;
}
