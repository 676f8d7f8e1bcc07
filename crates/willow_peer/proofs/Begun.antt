-- What a program begins with: the machine as it is, and one who watches.
use Rattle.std.proofs.Common.{◌≡◌, refl, sym, subst, false, is_err, Result, Ok, Err, IfOk, List, ℕ}
use Rattle.willow_area.specs.declared.area.Area.{Area}
use Rattle.willow_outside.specs.Facts.{ShelfFacts, SourceFacts, SinkFacts, NoiseFacts, DoorFacts, BayFacts}
use Rattle.sub_hub.specs.declared.key.HubKey.{HubKey}
use Rattle.sub_hub.specs.Watchers.{WatcherFacts}
use Rattle.sub_hub.specs.Hubs.{HubValue, IsWatcherAdded, new_hub}
use Rattle.peer_stage.specs.World.{World}
use Rattle.peer_run.specs.Promises.{KeepsPromises}
use Rattle.willow_peer.specs.Machine.{machine, everything, IsWatchedByOne, HasRunOverMachine}

-- objects that tell of themselves what the machine's do are the machine
machine_is : (shelf : ShelfFacts) (input : SourceFacts) (output report : SinkFacts) (door : DoorFacts) (noise : NoiseFacts) (bay : BayFacts) (hub : HubValue)
    → shelf ≡ (machine hub).shelf → input ≡ (machine hub).input → output ≡ (machine hub).output → report ≡ (machine hub).report
    → door ≡ (machine hub).door → noise ≡ (machine hub).noise → bay ≡ (machine hub).bay
    → record { shelf = shelf; input = input; output = output; report = report; door = door; noise = noise; hub = hub; bay = bay } ≡ machine hub
machine_is shelf input output report door noise bay hub is_shelf is_input is_output is_report is_door is_noise is_bay = rw (is_shelf, is_input, is_output, is_report, is_door, is_noise, is_bay) refl

-- so a run over them is one over the machine
pub over_machine : {words : List (List ℕ)} {status : ℕ} {behind : World} {shelf : ShelfFacts} {input : SourceFacts} {output report : SinkFacts} {door : DoorFacts} {noise : NoiseFacts} {bay : BayFacts} {hub : HubValue}
    → shelf ≡ (machine hub).shelf → input ≡ (machine hub).input → output ≡ (machine hub).output → report ≡ (machine hub).report
    → door ≡ (machine hub).door → noise ≡ (machine hub).noise → bay ≡ (machine hub).bay
    → KeepsPromises (record { words = words; old = record { shelf = shelf; input = input; output = output; report = report; door = door; noise = noise; hub = hub; bay = bay }; new = behind; status = status })
    → IsWatchedByOne hub → HasRunOverMachine words status
over_machine {words = words} {status = status} {behind = behind} {hub = hub} is_shelf is_input is_output is_report is_door is_noise is_bay promises watched =
    let same = machine_is _ _ _ _ _ _ _ hub is_shelf is_input is_output is_report is_door is_noise is_bay in
    record {
      hub = hub;
      watched = watched;
      behind = behind;
      promises = subst (λ (w : World). KeepsPromises (record { words = words; old = w; new = behind; status = status })) same promises;
    }

-- where one is added to a new hub for everything, just it watches
pub one_watches : {E : Type 0} {old hub : HubValue} {area : Area} (facts : WatcherFacts) (added : Result HubKey E)
    → old ≡ new_hub → area ≡ everything → is_err added ≡ false → IfOk added (λ key. IsWatcherAdded old hub key area facts) → IsWatchedByOne hub
one_watches {hub = hub} facts (Ok key) from full found is_added =
    record { key = key; facts = facts; added = rw (sym from, sym full) is_added }
one_watches facts (Err e) from full found is_added = absurd cc
