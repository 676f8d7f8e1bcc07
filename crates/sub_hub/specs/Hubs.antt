-- What contracts see of a hub, and how its calls change that.
use Rattle.std.specs.Prelude.{◌≡◌, ◌≢◌, ℕ, ◌+◌, ◌==◌, Bool, false, if◌then◌else◌, List, [], length, map, count_by, Option, Some, None, slice_index_or}
use Rattle.std.specs.Option.{option_map}
use Rattle.std.specs.declared.alloc.Global.{Global}
use Rattle.std.specs.declared.dyn_box.DynBox.{DynBox}
use Rattle.slab.specs.Slab.{Slab, get}
use Rattle.willow_entry.specs.Row.{RowValue}
use Rattle.willow_area.specs.declared.area.Area.{Area}
use Rattle.sub_hub.specs.Heard.{notes_from}
use Rattle.sub_hub.specs.Watchers.{WatcherFacts, IsToldOf}
use Rattle.sub_hub.specs.declared.key.HubKey.{HubKey}
use Rattle.sub_hub.specs.declared.member.Member.{Member}

-- a watcher of a hub: the number of the add that brought it, its area, whether it left, and what it tells
pub record MemberValue : Type 0 where
  pub number : ℕ
  pub area : Area
  pub has_left : Bool
  pub facts : WatcherFacts

-- the watcher or nothing in each slot, the position up to which they were told, the area of which all are told, and how
-- many were added
pub record HubValue : Type 0 where
  pub members : List (Option MemberValue)
  pub front : ℕ
  pub area : Area
  pub added : ℕ

-- ---- what is seen, where this is told of a watcher

module _ {X : Type 0} {F : X → Type 0} (told : DynBox X Global F → WatcherFacts) where
  abbrev pub member_value : Member X F → MemberValue
  member_value m = record { number = m.number; area = m.area; has_left = m.has_left; facts = told m.watcher }

  abbrev pub slots_seen : List (Option (Member X F)) → List (Option MemberValue)
  slots_seen slots = map (option_map member_value) slots

  -- what one slot is seen to have
  abbrev pub slot_seen : Slab (Member X F) → ℕ → Option MemberValue
  slot_seen members slot = option_map member_value (get members slot)

-- ---- what a slot has

-- the watcher in a slot, if there is one
abbrev pub hub_slot : List (Option MemberValue) → ℕ → Option MemberValue
hub_slot members slot = slice_index_or members slot None

-- the watcher, where its number is this
abbrev pub numbered : ℕ → Option MemberValue → Option MemberValue
numbered number None = None
numbered number (Some m) = if m.number == number then Some m else None

-- the watcher that was added under a key, if the hub has it
abbrev pub member_at : HubValue → HubKey → Option MemberValue
member_at hub key = numbered key.number (hub_slot hub.members key.slot)

-- a slot has this now, and each other what it had
pub record IsSlotSet (old new : List (Option MemberValue)) (slot : ℕ) (member : Option MemberValue) : Type 0 where
  pub changed : hub_slot new slot ≡ member
  pub others : (other : ℕ) → other ≢ slot → hub_slot new other ≡ hub_slot old other

-- ---- the calls

-- nobody watches, and all may be told of every row from the first on
abbrev pub new_hub : HubValue
new_hub = record { members = []; front = 0; area = record { subspace = None; path = []; times = record { start = 0; end = None } }; added = 0 }

-- the hub with this front and this area
abbrev pub begun_at : HubValue → ℕ → Area → HubValue
begun_at hub front area = record hub { front = front; area = area }

-- a watcher with the number of its add, who has not left
abbrev pub new_member : ℕ → Area → WatcherFacts → MemberValue
new_member number area facts = record { number = number; area = area; has_left = false; facts = facts }

-- A watcher was added. Its slot was vacant, and its key has that and the number of adds before, so no earlier add gave it.
pub record IsWatcherAdded (old new : HubValue) (key : HubKey) (area : Area) (facts : WatcherFacts) : Type 0 where
  pub number : key.number ≡ old.added
  pub vacant : hub_slot old.members key.slot ≡ None
  pub members : IsSlotSet old.members new.members key.slot (Some (new_member old.added area facts))
  pub front : new.front ≡ old.front
  pub same_area : new.area ≡ old.area
  pub added : new.added ≡ old.added + 1

-- the watcher of the key is taken out of its slot
pub record IsTakenOut (old new : HubValue) (key : HubKey) (m : MemberValue) (facts : WatcherFacts) : Type 0 where
  pub found : member_at old key ≡ Some m
  pub is_it : facts ≡ m.facts
  pub members : IsSlotSet old.members new.members key.slot None
  pub front : new.front ≡ old.front
  pub same_area : new.area ≡ old.area
  pub added : new.added ≡ old.added

-- The watcher of a key is handed back, of which this is told; None exactly where the hub has none.
abbrev pub Removes : HubValue → HubValue → HubKey → Option WatcherFacts → Type 0
Removes old new key None = (member_at old key ≡ None) × (new ≡ old)
Removes old new key (Some facts) = (m : MemberValue) × IsTakenOut old new key m facts

-- ---- a pump

-- It got one note for each row that its area and that of the hub include, in order; where it left, none behind the one for
-- which it did. Where it had left before, it got none.
pub record IsTold (served : Area) (front : ℕ) (rows : List RowValue) (m m' : MemberValue) : Type 0 where
  pub number : m'.number ≡ m.number
  pub same_area : m'.area ≡ m.area
  pub told : IsToldOf m.has_left m'.has_left m.facts m'.facts (notes_from m.area served front rows)

-- the same of what a slot has: a vacant one stays so
abbrev pub IsSlotTold : Area → ℕ → List RowValue → Option MemberValue → Option MemberValue → Type 0
IsSlotTold served front rows None slot = slot ≡ None
IsSlotTold served front rows (Some m) slot = (m' : MemberValue) × (slot ≡ Some m') × IsTold served front rows m m'

-- whether a slot has one that left
abbrev pub has_left : Option MemberValue → Bool
has_left None = false
has_left (Some m) = m.has_left

-- how many watchers left
abbrev pub count_left : List (Option MemberValue) → ℕ
count_left = count_by has_left

-- All watchers were told of the rows, which stand at the front, and so many of them left: that many more are gone than before.
pub record IsPumped (old new : HubValue) (rows : List RowValue) (left : ℕ) : Type 0 where
  pub told : (slot : ℕ) → IsSlotTold old.area old.front rows (hub_slot old.members slot) (hub_slot new.members slot)
  pub counted : count_left new.members ≡ count_left old.members + left
  pub front : new.front ≡ old.front + length rows
  pub same_area : new.area ≡ old.area
  pub added : new.added ≡ old.added
