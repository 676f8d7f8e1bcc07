-- One order of the slots: a tree and a list of the same slots.
use Rattle.std.specs.Prelude.{◌≡◌, ◌≢◌, ℕ, ◌+◌, ◌<◌, List, ◌∷◌, ◌++◌, Option, None, length}
use Rattle.std.specs.declared.cmp.Ordering.{Ordering}
use Rattle.link_arena.specs.declared.twice.Order.{Order}
use Rattle.link_arena.specs.declared.slot.Slot.{Slot}
use Rattle.link_arena.specs.Tree.{Tree, IsTree, slots_of, times, size, hit}
use Rattle.link_arena.specs.Chain.{IsChained}
use Rattle.link_arena.specs.Slots.{side, value_at, afters, befores, Precedes}

module _ {T : Type 0} (cmp : T → T → Ordering) where
  -- the links of the order stand as a tree of slots that hold values
  pub record IsFilled (order : Order) (slots : List (Slot T)) (root : Option ℕ) (t : Tree) : Type 0 where
    pub tree : IsTree (side order slots) (Precedes cmp slots) (length slots) root t
    pub filled : (s : ℕ) → 0 < times s t → value_at slots s ≢ None

  -- the links of the order stand as the tree, and its ends as the list of the tree's slots
  pub record IsOrdered (order : Order) (slots : List (Slot T)) (root : Option ℕ) (t : Tree) : Type 0 where
    pub tree : IsTree (side order slots) (Precedes cmp slots) (length slots) root t
    pub chained : IsChained (afters order slots) (befores order slots) (slots_of t)

  -- the order has the new slot too
  pub record IsAdded (order : Order) (slots : List (Slot T)) (root : Option ℕ) (old : Tree) (new : ℕ) : Type 0 where
    pub tree : Tree
    pub ordered : IsOrdered order slots root tree
    pub first : List ℕ
    pub last : List ℕ
    pub before : slots_of old ≡ first ++ last
    pub after : slots_of tree ≡ first ++ new ∷ last
    pub counts : (s : ℕ) → times s tree ≡ times s old + hit s new
    pub sized : size tree ≡ size old + 1

  -- the order has the slot no more
  pub record IsRemoved (order : Order) (slots : List (Slot T)) (root : Option ℕ) (old : Tree) (slot : ℕ) : Type 0 where
    pub tree : Tree
    pub ordered : IsOrdered order slots root tree
    pub first : List ℕ
    pub last : List ℕ
    pub before : slots_of old ≡ first ++ slot ∷ last
    pub after : slots_of tree ≡ first ++ last
    pub counts : (s : ℕ) → times s old ≡ times s tree + hit s slot
    pub sized : size old ≡ size tree + 1
