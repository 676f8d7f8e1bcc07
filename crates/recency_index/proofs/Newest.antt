-- What a list of items has when the most recent come first.
use Rattle.std.proofs.Common.{◌≡◌, ℕ, ◌↔◌, List, false, not, Contains}
use Rattle.willow_entry.proofs.Members.{Member, contains_from_member, member_from_contains, filter_member, any_false}
use Rattle.std.proofs.lemmas.Bool.{not-true}
use Rattle.willow_entry.proofs.Rising.{rising-rises, member_from_rising, member_rising, same_rising}
use Rattle.recency_index.specs.declared.ranked.Ranked.{Ranked}
use Rattle.recency_index.specs.Recency.{recency_cmp, newest, AreNewestFirst, is_at, has_at, without_at}
use Rattle.recency_index.proofs.Order.{recency_total, recency_tie}

pub newest_is_so : (items : List Ranked) → AreNewestFirst (newest items)
newest_is_so items = rising-rises recency_cmp recency_total items

pub member_from_newest : (items : List Ranked) (item : Ranked) → Member (newest items) item → Member items item
member_from_newest items item m = member_from_rising recency_cmp items item m

pub member_newest : (items : List Ranked) (item : Ranked) → Member items item → Member (newest items) item
member_newest items item m = member_rising recency_cmp items (λ a b p q tied. recency_tie a b tied) item m

pub newest_holds : (items : List Ranked) (item : Ranked) → Contains (newest items) item ↔ Contains items item
newest_holds items item = (
  λ c. contains_from_member items item (member_from_newest items item (member_from_contains (newest items) item c)),
  λ c. contains_from_member (newest items) item (member_newest items item (member_from_contains items item c)),
)

-- a list in this order is told by its members
pub newest_of : (kept items : List Ranked) → AreNewestFirst kept → ((item : Ranked) → Member kept item → Member items item) → ((item : Ranked) → Member items item → Member kept item) → kept ≡ newest items
newest_of kept items order f g =
    same_rising recency_cmp recency_total kept (newest items) order (newest_is_so items)
    (λ item m. member_newest items item (f item m)) (λ item m. g item (member_from_newest items item m))

pub newest_only : (items kept : List Ranked) → AreNewestFirst kept → ((item : Ranked) → Contains kept item ↔ Contains items item) → kept ≡ newest items
newest_only items kept order same = newest_of kept items order
    (λ item m. member_from_contains items item ((same item).0 (contains_from_member kept item m)))
    (λ item m. member_from_contains kept item ((same item).1 (contains_from_member items item m)))

-- lists with the same members are the same in this order
pub newest_alike : (xs ys : List Ranked) → ((item : Ranked) → Member xs item → Member ys item) → ((item : Ranked) → Member ys item → Member xs item) → newest xs ≡ newest ys
newest_alike xs ys f g = newest_of (newest xs) ys (newest_is_so xs) (λ item m. f item (member_from_newest xs item m)) (λ item m. member_newest xs item (g item m))

-- where the items at a place are left out none stands there
pub none_at : (subspace : List ℕ) (path : List (List ℕ)) (items : List Ranked) → has_at subspace path (without_at subspace path items) ≡ false
none_at subspace path items = any_false (is_at subspace path) (without_at subspace path items) (λ item m.
    not-true (is_at subspace path item) (filter_member (λ i. not (is_at subspace path i)) items item m).1)
