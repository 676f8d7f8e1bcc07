-- From the slots to the lists that a contract sees.
use Rattle.std.specs.Prelude.{ℕ, ◌-◌, ◌^◌, min, List, [], ◌∷◌, Option, Some, None, length}
use Rattle.link_arena.specs.declared.twice.Order.{Order}
use Rattle.link_arena.specs.declared.twice.Order.TheVariants.{Key, Rank}
use Rattle.link_arena.specs.declared.slot.Slot.{Slot}
use Rattle.link_arena.specs.Tree.{slots_of, grown}
use Rattle.link_arena.specs.Arena.{Arena}
use Rattle.link_arena.specs.Slots.{side, value_at}

module _ {T : Type 0} where
  -- the pair of a slot and its value in front of others, where there is a value
  abbrev pub with_pair : ℕ → Option T → List (ℕ × T) → List (ℕ × T)
  with_pair s None rest = rest
  with_pair s (Some value) rest = (s, value) ∷ rest

  -- the pairs of these slots and their values
  abbrev pub pairs_of : (ℕ → Option T) → List ℕ → List (ℕ × T)
  pairs_of value [] = []
  pairs_of value (s ∷ rest) = with_pair s (value s) (pairs_of value rest)

  -- the pairs of the tree below a root
  abbrev pub pairs_below : Order → List (Slot T) → Option ℕ → List (ℕ × T)
  pairs_below order slots root = pairs_of (value_at slots) (slots_of (grown (length slots) (side order slots) root))

  -- what a contract sees; there are at most 2^31 - 1 values
  abbrev pub arena_of : List (Slot T) → Option ℕ → Option ℕ → ℕ → ℕ → Arena T
  arena_of slots key rank held capacity = record { by_key = pairs_below Key slots key; by_rank = pairs_below Rank slots rank; spare = min capacity (2 ^ 31 - 1) - held }
