-- Vacant slots: one is filled, or a slot becomes vacant.
use Rattle.std.specs.Prelude.{◌≡◌, ◌≢◌, ℕ, ◌+◌, ◌<◌, List, Option, None, Some, length, ◌⊎◌}
use Rattle.link_arena.specs.declared.slot.Content.TheVariants.{Vacant}
use Rattle.link_arena.specs.declared.slot.Slot.{Slot}
use Rattle.link_arena.specs.Slots.{slot_at, content_at, value_at}

module _ {T : Type 0} where
  -- the slot is there and vacant
  pub record IsVacantAt (slots : List (Slot T)) (slot : ℕ) : Type 0 where
    pub below : slot < length slots
    pub next : Option ℕ
    pub vacant : content_at slots slot ≡ Vacant next

  -- the slot was the first vacant one, and named the next
  pub record IsReused (old new : List (Slot T)) (vacant : Option ℕ) (slot : ℕ) (next : Option ℕ) : Type 0 where
    pub first : vacant ≡ Some slot
    pub named : content_at old slot ≡ Vacant next
    pub same : length new ≡ length old

  -- no slot was vacant, and the slot is a new one
  pub record IsAppended (old new : List (Slot T)) (vacant : Option ℕ) (slot : ℕ) (next : Option ℕ) : Type 0 where
    pub none : vacant ≡ None
    pub last : slot ≡ length old
    pub one_more : length new ≡ length old + 1
    pub no_next : next ≡ None

  -- the slot holds the value now, and the others are as they were
  pub record IsFilledIn (old new : List (Slot T)) (vacant : Option ℕ) (value : T) (slot : ℕ) (next : Option ℕ) : Type 0 where
    pub here : value_at new slot ≡ Some value
    pub elsewhere : (s : ℕ) → s ≢ slot → slot_at new s ≡ slot_at old s
    pub how : IsReused old new vacant slot next ⊎ IsAppended old new vacant slot next

  -- the slot is vacant now and names this one as the next, and the others are as they were
  pub record IsEmptied (old new : List (Slot T)) (slot : ℕ) (next : Option ℕ) : Type 0 where
    pub here : content_at new slot ≡ Vacant next
    pub elsewhere : (s : ℕ) → s ≢ slot → slot_at new s ≡ slot_at old s
    pub same : length new ≡ length old
