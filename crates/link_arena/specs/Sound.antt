-- How an arena keeps its values: each slot stands in both trees, or is vacant and stands in the list of vacant slots.
use Rattle.std.specs.Prelude.{◌≡◌, ◌≢◌, ℕ, ◌+◌, ◌<◌, ◌^◌, List, [], ◌∷◌, Option, None, Some, length}
use Rattle.std.specs.declared.cmp.Ordering.{Ordering}
use Rattle.link_arena.specs.declared.twice.Order.{Order}
use Rattle.link_arena.specs.declared.slot.Content.TheVariants.{Vacant}
use Rattle.link_arena.specs.declared.slot.Slot.{Slot}
use Rattle.link_arena.specs.Tree.{Tree, times, size, count_of}
use Rattle.link_arena.specs.Both.{AreBoth}
use Rattle.link_arena.specs.Slots.{content_at, value_at}

module _ {T : Type 0} where
  -- from the first on, each slot is vacant and names the next
  abbrev pub AreVacant : List (Slot T) → Option ℕ → List ℕ → Type 0
  AreVacant slots first [] = first ≡ None
  AreVacant slots first (s ∷ rest) = (first ≡ Some s) × ((next : Option ℕ) × (content_at slots s ≡ Vacant next) × AreVacant slots next rest)

  -- these trees and this list of vacant slots
  pub record IsKept (cmp : Order → T → T → Ordering) (slots : List (Slot T)) (key rank vacant : Option ℕ) (held : ℕ) (t u : Tree) (free : List ℕ) : Type 0 where
    pub both : AreBoth cmp slots key rank t u
    pub filled : (s : ℕ) → 0 < times s t → value_at slots s ≢ None
    pub vacant_are : AreVacant slots vacant free
    pub once : (s : ℕ) → s < length slots → times s t + count_of s free ≡ 1
    pub within : (s : ℕ) → 0 < count_of s free → s < length slots
    pub key_size : size t ≡ held
    pub rank_size : size u ≡ held
    pub all : held + length free ≡ length slots
    pub few : length slots < 2 ^ 31

  -- some trees and some list
  abbrev pub IsSound : (Order → T → T → Ordering) → List (Slot T) → Option ℕ → Option ℕ → Option ℕ → ℕ → Type 0
  IsSound cmp slots key rank vacant held = (t : Tree) × (u : Tree) × (free : List ℕ) × IsKept cmp slots key rank vacant held t u free
