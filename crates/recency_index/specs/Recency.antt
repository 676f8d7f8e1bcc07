-- Which of two entries is the more recent, and entries in that order.
use Rattle.std.specs.Prelude.{◌≡◌, ℕ, Bool, not, List, filter, Contains, Some, slice_get}
use Rattle.std.specs.List.{list_any}
use Rattle.std.specs.List.Sorted.{IsStrictlySortedBy}
use Rattle.std.specs.Ordering.{ordering_then, eq_by_cmp, is_eq}
use Rattle.std.specs.declared.cmp.Ordering.{Ordering}
use Rattle.willow_entry.specs.declared.entry.Entry.{Entry}
use Rattle.willow_entry.specs.Pruning.{rising}
use Rattle.willow_entry.specs.Rank.{RankValue, rank_cmp}
use Rattle.willow_entry.specs.Row.{subspace_path_cmp}
use Rattle.recency_index.specs.declared.ranked.Ranked.{Ranked}

-- the item of an entry: its rank, and its place within its namespace
abbrev pub ranked_of : Entry → Ranked
ranked_of e = record { timestamp = e.timestamp; digest = e.digest; length = e.length; subspace = e.subspace; path = e.path }

-- the rank of an item
abbrev pub item_rank : Ranked → RankValue
item_rank item = record { timestamp = item.timestamp; digest = item.digest.0; length = item.length }

-- the greater rank first, and of equal ranks the lower subspace and path
abbrev pub recency_cmp : Ranked → Ranked → Ordering
recency_cmp a b = ordering_then (rank_cmp (item_rank b) (item_rank a)) (subspace_path_cmp (a.subspace, a.path) (b.subspace, b.path))

-- the items, the most recent first
abbrev pub newest : List Ranked → List Ranked
newest items = rising recency_cmp items

-- each item is more recent than those behind it
abbrev pub AreNewestFirst : List Ranked → Type 0
AreNewestFirst items = IsStrictlySortedBy recency_cmp items

-- whether the item stands in this subspace, at this path
abbrev pub is_at : List ℕ → List (List ℕ) → Ranked → Bool
is_at subspace path item = is_eq (subspace_path_cmp (item.subspace, item.path) (subspace, path))

-- whether one of the items does
abbrev pub has_at : List ℕ → List (List ℕ) → List Ranked → Bool
has_at subspace path items = list_any (is_at subspace path) items

-- the items that don't
abbrev pub without_at : List ℕ → List (List ℕ) → List Ranked → List Ranked
without_at subspace path items = filter (λ item. not (is_at subspace path item)) items

-- whether the item is one of these
abbrev pub is_among : List Ranked → Ranked → Bool
is_among gone item = list_any (λ g. eq_by_cmp recency_cmp g item) gone

-- the items that are none of these
abbrev pub without : List Ranked → List Ranked → List Ranked
without gone items = filter (λ item. not (is_among gone item)) items

-- what contracts see of an index: its items, the most recent first, the slot of each, and for how many more it has room
pub record IndexValue : Type 0 where
  pub items : List Ranked
  pub slots : List ℕ
  pub spare : ℕ

-- the slot is one of the index, and the item is its: the two stand at one place of the order
pub record IsItemAt (index : IndexValue) (slot : ℕ) (item : Ranked) : Type 0 where
  pub held : Contains index.slots slot
  pub stands : (n : ℕ) → slice_get index.slots n ≡ Some slot → slice_get index.items n ≡ Some item
