-- What one order sees of the slots: its links, its ends and the values, each by index.
use Rattle.std.specs.Prelude.{◌≡◌, ℕ, ◌+◌, ◌^◌, ◌-◌, min, max, ◌≢◌, List, slice_index_or, Option, Some, None}
use Rattle.std.specs.declared.cmp.Ordering.{Ordering}
use Rattle.std.specs.declared.cmp.Ordering.TheVariants.{Less, Equal}
use Rattle.link_arena.specs.declared.twice.Order.{Order}
use Rattle.link_arena.specs.declared.twice.Order.TheVariants.{Key, Rank}
use Rattle.link_arena.specs.declared.slot.Link.{Link}
use Rattle.link_arena.specs.declared.slot.Ends.{Ends}
use Rattle.link_arena.specs.declared.slot.Content.{Content}
use Rattle.link_arena.specs.declared.slot.Content.TheVariants.{Value, Vacant}
use Rattle.link_arena.specs.declared.slot.Slot.{Slot}

abbrev pub no_link : Link
no_link = record { left = None; right = None; height = 0 }

abbrev pub no_ends : Ends
no_ends = record { before = None; after = None }

-- the order that isn't this one
abbrev pub other : Order → Order
other Key = Rank
other Rank = Key

module _ {T : Type 0} where
  -- what stands for a slot that is not there
  abbrev pub no_slot : Slot T
  no_slot = record { content = Vacant None; key = no_link; rank = no_link; key_ends = no_ends; rank_ends = no_ends }

  abbrev pub slot_at : List (Slot T) → ℕ → Slot T
  slot_at slots s = slice_index_or slots s no_slot

  -- ---- links

  abbrev pub link_of : Order → Slot T → Link
  link_of Key slot = slot.key
  link_of Rank slot = slot.rank

  -- the links of one order, by index
  abbrev pub side : Order → List (Slot T) → ℕ → Link
  side order slots s = link_of order (slot_at slots s)

  -- a slot but for its link of one order
  abbrev pub unlinked : Order → Slot T → Slot T
  unlinked Key slot = record slot { key = no_link }
  unlinked Rank slot = record slot { rank = no_link }

  -- the slots but for their links of one order, by index
  abbrev pub rest : Order → List (Slot T) → ℕ → Slot T
  rest order slots s = unlinked order (slot_at slots s)

  -- ---- ends

  abbrev pub ends_of : Order → Slot T → Ends
  ends_of Key slot = slot.key_ends
  ends_of Rank slot = slot.rank_ends

  -- the next, and the one before, by index
  abbrev pub afters : Order → List (Slot T) → ℕ → Option ℕ
  afters order slots s = (ends_of order (slot_at slots s)).after

  abbrev pub befores : Order → List (Slot T) → ℕ → Option ℕ
  befores order slots s = (ends_of order (slot_at slots s)).before

  -- a slot but for its ends of one order
  abbrev pub unended : Order → Slot T → Slot T
  unended Key slot = record slot { key_ends = no_ends }
  unended Rank slot = record slot { rank_ends = no_ends }

  -- the slots but for their ends of one order, by index
  abbrev pub loose : Order → List (Slot T) → ℕ → Slot T
  loose order slots s = unended order (slot_at slots s)

  -- ---- values

  abbrev pub content_at : List (Slot T) → ℕ → Content T
  content_at slots s = (slot_at slots s).content

  abbrev pub value_in : Content T → Option T
  value_in (Value value) = Some value
  value_in (Vacant next) = None

  -- the values, by index; none where the slot is vacant
  abbrev pub value_at : List (Slot T) → ℕ → Option T
  value_at slots s = value_in (content_at slots s)

  -- how two slots' values are ordered: as equal where one is vacant
  abbrev pub slot_cmp : (T → T → Ordering) → Option T → Option T → Ordering
  slot_cmp cmp None b = Equal
  slot_cmp cmp (Some a) None = Equal
  slot_cmp cmp (Some a) (Some b) = cmp a b

  -- there is a value, and it ties with the probe
  abbrev pub IsTied : (T → T → Ordering) → T → Option T → Type 0
  IsTied cmp probe None = ⊥
  IsTied cmp probe (Some value) = cmp probe value ≡ Equal

  -- the first slot's value stands before the second's
  abbrev pub Precedes : (T → T → Ordering) → List (Slot T) → ℕ → ℕ → Type 0
  Precedes cmp slots s u = slot_cmp cmp (value_at slots s) (value_at slots u) ≡ Less

-- the new links are the old ones, but for one
pub record IsSetAt (old new : ℕ → Link) (at : ℕ) (link : Link) : Type 0 where
  pub here : new at ≡ link
  pub elsewhere : (s : ℕ) → s ≢ at → new s ≡ old s

-- the height that a root tells
abbrev pub root_height : (ℕ → Link) → Option ℕ → ℕ
root_height links None = 0
root_height links (Some i) = (links i).height

-- the link of a slot that holds two trees together
abbrev pub joint : (ℕ → Link) → Option ℕ → Option ℕ → Link
joint links left right = record { left = left; right = right; height = min (max (root_height links left) (root_height links right) + 1) (2 ^ 32 - 1) }
