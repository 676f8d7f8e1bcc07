-- Two orders of one set of slots.
use Rattle.std.specs.Prelude.{◌≡◌, ℕ, ◌+◌, ◌<◌, ◌^◌, List, Option, length, ◌⊎◌}
use Rattle.std.specs.declared.cmp.Ordering.{Ordering}
use Rattle.link_arena.specs.declared.twice.Order.{Order}
use Rattle.link_arena.specs.declared.twice.Order.TheVariants.{Key, Rank}
use Rattle.link_arena.specs.declared.slot.Slot.{Slot}
use Rattle.link_arena.specs.declared.both.Tops.{Tops}
use Rattle.link_arena.specs.Tree.{Tree, times, size}
use Rattle.link_arena.specs.Ordered.{IsOrdered, IsAdded, IsRemoved}
use Rattle.link_arena.specs.Slots.{Precedes}

-- the top of the tree of one order
abbrev pub top_of : Order → Tops → Option ℕ
top_of Key tops = tops.key
top_of Rank tops = tops.rank

module _ {T : Type 0} (cmp : Order → T → T → Ordering) where
  -- the same slots stand in both orders
  pub record AreBoth (slots : List (Slot T)) (key rank : Option ℕ) (t u : Tree) : Type 0 where
    pub by_key : IsOrdered (cmp Key) Key slots key t
    pub by_rank : IsOrdered (cmp Rank) Rank slots rank u
    pub same : (s : ℕ) → times s t ≡ times s u

  -- a slot that neither order has, whose place in both is told, and room for it
  pub record CanAdd (slots : List (Slot T)) (key rank : Option ℕ) (t u : Tree) (new : ℕ) : Type 0 where
    pub both : AreBoth slots key rank t u
    pub fresh : times new t ≡ 0
    pub below : new < length slots
    pub differs : (order : Order) (s : ℕ) → 0 < times s t → Precedes (cmp order) slots s new ⊎ Precedes (cmp order) slots new s
    pub room : size t + 1 < 2 ^ 31
    pub rank_room : size u + 1 < 2 ^ 31

  pub record AreAdded (slots : List (Slot T)) (key rank : Option ℕ) (t u : Tree) (new : ℕ) : Type 0 where
    pub key_added : IsAdded (cmp Key) Key slots key t new
    pub rank_added : IsAdded (cmp Rank) Rank slots rank u new
    pub both : AreBoth slots key rank key_added.tree rank_added.tree

  pub record CanRemove (slots : List (Slot T)) (key rank : Option ℕ) (t u : Tree) (slot : ℕ) : Type 0 where
    pub both : AreBoth slots key rank t u
    pub there : 0 < times slot t

  pub record AreRemoved (slots : List (Slot T)) (key rank : Option ℕ) (t u : Tree) (slot : ℕ) : Type 0 where
    pub key_removed : IsRemoved (cmp Key) Key slots key t slot
    pub rank_removed : IsRemoved (cmp Rank) Rank slots rank u slot
    pub both : AreBoth slots key rank key_removed.tree rank_removed.tree
