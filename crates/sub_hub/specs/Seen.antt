-- A hub as contracts see it.
use Rattle.std.specs.Prelude.{◌≡◌, ℕ, Some}
use Rattle.std.specs.declared.alloc.Global.{Global}
use Rattle.std.specs.declared.dyn_box.DynBox.{DynBox}
use Rattle.slab.specs.Slab.{get}
use Rattle.sub_hub.specs.Watchers.{WatcherFacts}
use Rattle.sub_hub.specs.Hubs.{HubValue, slots_seen}
use Rattle.sub_hub.specs.declared.hub.Hub.{Hub}
use Rattle.sub_hub.specs.declared.member.Member.{Member}

-- a hub, where this is told of a watcher
abbrev pub hub_seen : {X : Type 0} {F : X → Type 0} → (DynBox X Global F → WatcherFacts) → Hub X F → HubValue
hub_seen told hub = record { members = slots_seen told hub.members.slots; front = hub.front; area = hub.area; added = hub.added }

-- the very watcher that stands in a slot, whatever it tells
abbrev pub IsWatcherIn : {X : Type 0} {F : X → Type 0} → Hub X F → ℕ → DynBox X Global F → Type 0
IsWatcherIn {X} {F} hub slot watcher = (m : Member X F) × (get hub.members slot ≡ Some m) × (watcher ≡ m.watcher)
