-- Calls of a hub, one after the other, and what a watcher is to hear of them.
use Rattle.std.specs.Prelude.{◌≡◌, ◌≢◌, ℕ, ◌+◌, List, [], ◌∷◌, ◌++◌, length}
use Rattle.std.specs.declared.option.Option.{Option}
use Rattle.willow_entry.specs.Row.{RowValue}
use Rattle.willow_area.specs.declared.area.Area.{Area}
use Rattle.sub_hub.specs.Heard.{Note, notes_from}
use Rattle.sub_hub.specs.Watchers.{WatcherFacts}
use Rattle.sub_hub.specs.Hubs.{HubValue, begun_at, IsWatcherAdded, Removes, IsPumped}
use Rattle.sub_hub.specs.declared.key.HubKey.{HubKey}

-- what is done with a hub, with what is given and answered: a watcher that tells this is added for an area and got a key; one is
-- asked back by its key, and is handed back or not; a front and an area are set; rows are pumped, and so many left
pub data Call : Type 0 where
  Add : HubKey → Area → WatcherFacts → Call
  Remove : HubKey → Option WatcherFacts → Call
  Begin : ℕ → Area → Call
  Pump : List RowValue → ℕ → Call

-- the call made this of the hub
abbrev pub MakesCall : HubValue → Call → HubValue → Type 0
MakesCall old (Add key area facts) new = IsWatcherAdded old new key area facts
MakesCall old (Remove key answer) new = Removes old new key answer
MakesCall old (Begin front area) new = new ≡ begun_at old front area
MakesCall old (Pump rows left) new = IsPumped old new rows left

-- the calls made this of it, each of what the one before had left
abbrev pub MakeAll : HubValue → List Call → HubValue → Type 0
MakeAll old [] new = new ≡ old
MakeAll old (call ∷ calls) new = (between : HubValue) × MakesCall old call between × MakeAll between calls new

-- the call is not the removal of this key
abbrev pub Spares : HubKey → Call → Type 0
Spares key (Add other area facts) = Unit {0}
Spares key (Remove other answer) = other ≢ key
Spares key (Begin front area) = Unit {0}
Spares key (Pump rows left) = Unit {0}

-- the notes of the rows that are pumped by these calls, for a watcher of an area, where the hub has this area and this front
abbrev pub heard_in : Area → Area → ℕ → List Call → List Note
heard_in own served front [] = []
heard_in own served front (Add key area facts ∷ calls) = heard_in own served front calls
heard_in own served front (Remove key answer ∷ calls) = heard_in own served front calls
heard_in own served front (Begin start area ∷ calls) = heard_in own area start calls
heard_in own served front (Pump rows left ∷ calls) = notes_from own served front rows ++ heard_in own served (front + length rows) calls
