-- A run of the program over the machine, which one watches.
use Rattle.std.specs.Prelude.{◌≡◌, ℕ, ◌⊎◌, List, [], None}
use Rattle.willow_area.specs.declared.area.Area.{Area}
use Rattle.sub_hub.specs.declared.key.HubKey.{HubKey}
use Rattle.sub_hub.specs.Watchers.{WatcherFacts}
use Rattle.sub_hub.specs.Hubs.{HubValue, IsWatcherAdded, new_hub}
use Rattle.peer_stage.specs.World.{World}
use Rattle.peer_run.specs.Promises.{KeepsPromises}

-- the machine's objects, whose counts are 0, and a hub: what they hold, give and take is not told
abbrev pub machine : HubValue → World
machine hub = record {
  shelf = record { names = None; read_faults = 0; write_faults = 0 };
  input = record { left = None; faults = 0; ends = 0 };
  output = record { held = None; faults = 0 };
  report = record { held = None; faults = 0 };
  door = record { faults = 0; accepts = 0; out = 0; asked = None; back = None };
  noise = record { draws = None; faults = 0 };
  hub = hub;
  bay = record { faults = 0; out = 0; names = None; asked = None; back = None };
}

-- every entry, whoever wrote it, at any path and time
abbrev pub everything : Area
everything = record { subspace = None; path = []; times = record { start = 0; end = None } }

-- just one watches, whatever it tells of itself, and hears of everything
pub record IsWatchedByOne (hub : HubValue) : Type 0 where
  pub key : HubKey
  pub facts : WatcherFacts
  pub added : IsWatcherAdded new_hub hub key everything facts

-- a run of these words over the machine keeps its promises and comes to this status; one watches as it begins
pub record HasRunOverMachine (words : List (List ℕ)) (status : ℕ) : Type 0 where
  pub hub : HubValue
  pub watched : IsWatchedByOne hub
  pub behind : World
  pub promises : KeepsPromises (record { words = words; old = machine hub; new = behind; status = status })

-- the status of such a run, or 7 where no memory was found to begin one
abbrev pub EndsAsRun : List (List ℕ) → ℕ → Type 0
EndsAsRun words status = (status ≡ 7) ⊎ HasRunOverMachine words status
