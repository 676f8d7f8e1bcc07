-- The steps of `sync` and of `serve` put together from the stages of the code.
use Rattle.std.proofs.Common.{◌≡◌, ℕ, Bool, List, Option, Some, None, inl, inr, refl, subst}
use Rattle.std.specs.Prelude.{Result, Ok, Err, IfOk, IfErr, IfSome}
use Rattle.std.specs.Global.{Vec}
use Rattle.std.specs.String.{string_bytes}
use Rattle.willow_outside.specs.Facts.{BayFacts, ShelfFacts, DoorFacts, NoiseFacts}
use Rattle.sub_hub.specs.Hubs.{HubValue}
use Rattle.mc_cap.specs.declared.refusal.RefusedRow.{RefusedRow}
use Rattle.peer_make.specs.Making.{DrawsAll}
use Rattle.peer_stage.specs.Faults.{CountsStep}
use Rattle.peer_stage.specs.Shelves.{PutsBytes}
use Rattle.peer_stage.specs.Steps.{Step, OnShelf}
use Rattle.peer_stage.specs.World.{World}
use Rattle.peer_stage.specs.declared.outcome.Done.{Done}
use Rattle.peer_stage.specs.declared.outcome.Done.TheVariants as done
use Rattle.peer_stage.specs.declared.outcome.Hosted.{Hosted}
use Rattle.peer_stage.specs.declared.outcome.Stop.{Stop}
use Rattle.peer_stage.specs.declared.outcome.Stop.TheVariants as stop
use Rattle.peer_stage.proofs.Steps.{passes, noise_on}
use Rattle.peer_run.specs.Closing.{image_of, put_answer}
use Rattle.peer_run.specs.Hosting.{HasAttended, HostsFile, HostsLinks, HostsWith, OpensHouse, PutsImage, Tells, plans_of, own_role, way_of, with_put}
use Rattle.peer_run.specs.LogFiles.{EndsKeeping, FileState, KeepsRest, KeepsSeenIf, StopsFile}
use Rattle.peer_run.specs.LogOpening.{IsFileOpened}
use Rattle.peer_run.specs.Telling.{AreNotForWant, AreTailsNotForWant, TellsHosted, TellsJust, Told, none_told, told_behind}
use Rattle.peer_run.specs.Visiting.{Attends}
use Rattle.peer_run.specs.declared.hosting.Attended.{Attended}
use Rattle.peer_run.specs.declared.sessions.House as house
use Rattle.peer_run.specs.declared.sessions.HostWords.{HostWords}
use Rattle.peer_run.proofs.KeptPumps.{KeepsAll, all_stops, keeps_all}

-- the put of the bytes of a name, told of the same bytes and the same name
pub puts_same : (name bytes is_name are_bytes : List ℕ) (h h' : ShelfFacts) (end : Result (Unit {0}) Stop) → name ≡ is_name → bytes ≡ are_bytes → PutsBytes name bytes h h' end → PutsBytes is_name are_bytes h h' end
puts_same name bytes is_name are_bytes h h' end named same puts = subst (λ (n : List ℕ). PutsBytes n are_bytes h h' end) named (subst (λ (b : List ℕ). PutsBytes name b h h' end) same puts)

-- the image was put or tried to be put, and the end tells it and all sessions
pub closes_so : (name : List ℕ) (awaited : Bool) (rows : ℕ) (first : Option RefusedRow) (x : Attended) (s : Hosted) (w w' : World) → AreNotForWant x.ends.items → AreTailsNotForWant x.tails.items → TellsJust awaited (with_put (told_behind rows first x) s.put) s
    → OnShelf (PutsBytes name (image_of x.state)) w w' (put_answer s.put) → Tells (PutsImage name) (told_behind rows first x) (TellsHosted awaited) w w' (Ok (done.Hosted s))
closes_so name awaited rows first x s w w' none no_tail told puts = (with_put (told_behind rows first x) s.put, record { wanted_none = none; none_behind = no_tail; put = s.put; told_is = refl; does = puts }, told)

-- sessions over the links of a way, told of the same place and the same draws
pub attends_as : (awaited follows : Bool) (place is_place : List ℕ) (draws are_draws : List (List ℕ)) (s : house.House) (d d' : DoorFacts) (u u' : HubValue) (end : Result Attended Stop) → place ≡ is_place → draws ≡ are_draws
    → Attends (record { awaited = awaited; follows = follows; place = place }) s.plan.ask (plans_of s) s.signers.items draws s.opening.state d d' u u' end → Attends (record { awaited = awaited; follows = follows; place = is_place }) s.plan.ask (plans_of s) s.signers.items are_draws s.opening.state d d' u u' end
attends_as awaited follows place is_place draws are_draws s d d' u u' end here same attends =
    subst (λ (x : List ℕ). Attends (record { awaited = awaited; follows = follows; place = x }) s.plan.ask (plans_of s) s.signers.items are_draws s.opening.state d d' u u' end) here
    (subst (λ (x : List (List ℕ)). Attends (record { awaited = awaited; follows = follows; place = place }) s.plan.ask (plans_of s) s.signers.items x s.opening.state d d' u u' end) same attends)

-- ---- with a log file

-- where the run stopped, with the file so
pub file_stops : (words : HostWords) (f f' : Option FileState) (old new : World) (e : Stop) → HostsWith words f old new (Err e) → IfSome f (IsFileOpened words.log old.bay new.bay) → StopsFile e f f' → HostsFile words f' old new (Err e)
file_stops words None None old new e hosts is_opened stops = hosts
file_stops words (Some f) (Some f') old new e hosts is_opened stops = (f, hosts, is_opened, stops)
file_stops words None (Some f') old new stop.NoMemory hosts is_opened (inl same) = absurd cc
file_stops words None (Some f') old new stop.NoMemory hosts is_opened (inr kept) = absurd kept
file_stops words None (Some f') old new e hosts is_opened stops = absurd cc
file_stops words (Some f) None old new stop.NoMemory hosts is_opened (inl same) = absurd cc
file_stops words (Some f) None old new stop.NoMemory hosts is_opened (inr kept) = absurd kept
file_stops words (Some f) None old new e hosts is_opened stops = absurd cc

-- where it came to its end
filed_done : (words : HostWords) (f f' : Option FileState) (old new : World) (d : Done) (hosts : HostsWith words f old new (Ok d)) → IfSome f (IsFileOpened words.log old.bay new.bay) → KeepsAll hosts.value.opening.state.log hosts.rest.rest.1.so_far.state.log f f' → HostsFile words f' old new (Ok d)
filed_done words None None old new d hosts is_opened kept = hosts
filed_done words (Some f) (Some f') old new d hosts is_opened kept = (f, hosts, is_opened, kept)
filed_done words None (Some f') old new d hosts is_opened kept = absurd kept
filed_done words (Some f) None old new d hosts is_opened kept = absurd kept

-- where the image was not put for want of memory
put_stops : (name : List ℕ) (told : Told) (w w' : World) (f f' : Option FileState) (e : Stop) → PutsImage name w told w' (Err e) → StopsFile stop.NoMemory f f' → StopsFile e f f'
put_stops name told w w' f f' stop.NoMemory puts stops = stops
put_stops name told w w' f f' e puts stops = absurd puts

module _ (words : HostWords) (file : Option FileState) (others : World) (h h1 : ShelfFacts) (b b1 : BayFacts) (n n1 : NoiseFacts) (d : DoorFacts) (u : HubValue) where
  -- the objects before, and behind the reservation, the draws and the sessions
  abbrev before : World
  before = record others { shelf = h; door = d; noise = n; hub = u; bay = b }

  abbrev opened : World
  opened = record others { shelf = h1; door = d; noise = n; hub = u; bay = b1 }

  abbrev drawn : World
  drawn = record others { shelf = h1; door = d; noise = n1; hub = u; bay = b1 }

  abbrev attended : DoorFacts → HubValue → World
  attended d1 u1 = record others { shelf = h1; door = d1; noise = n1; hub = u1; bay = b1 }

  abbrev Opens : Step house.House
  Opens = OpensHouse (own_role words.awaited) words.image words.cap words.key words.links words.area words.limits words.log file

  -- how sessions are run with draws
  abbrev AttendsWith : house.House → List (List ℕ) → DoorFacts → HubValue → Result Attended Stop → Type 0
  AttendsWith s draws d1 u1 = Attends (way_of words) s.plan.ask (plans_of s) s.signers.items draws s.opening.state d d1 u u1

  -- the last step with draws
  abbrev TellsWith : house.House → List (List ℕ) → Step Done
  TellsWith s draws = Tells (HostsLinks (way_of words) s.plan.ask (plans_of s) s.signers.items draws s.opening.rows (string_bytes words.image)) (none_told s.opening.state s.opening.first) (TellsHosted words.awaited)

  module _ (s : house.House) (opens : Opens before opened (Ok s)) where
    pub drawing_stops : (e : Stop) → DrawsAll words.links n n1 (Err e) → CountsStep {A = Vec (List ℕ)} n.faults n1.faults (Err e) → HostsWith words file before drawn (Err e)
    drawing_stops e does faults = passes Opens _ before opened drawn s (Err e) opens (inl (record { does = does; faults = faults; others = refl }))

    module _ (draws : Vec (List ℕ)) (draw : DrawsAll words.links n n1 (Ok draws)) (stood : n1.faults ≡ n.faults) where
      pub attending_stops : (d1 : DoorFacts) (u1 : HubValue) (e : Stop) → AttendsWith s draws.items d1 u1 (Err e) → HostsWith words file before (attended d1 u1) (Err e)
      attending_stops d1 u1 e does =
          passes Opens _ before opened (attended d1 u1) s (Err e) opens
          (noise_on (DrawsAll words.links) _ opened n n1 (attended d1 u1) draws (Err e) draw stood (inl (does.0, refl, does.1)))

      -- the sessions that were run, as the first part
      has_attended : (d1 : DoorFacts) (u1 : HubValue) (x : Attended) → AttendsWith s draws.items d1 u1 (Ok x)
          → HasAttended (way_of words) s.plan.ask (plans_of s) s.signers.items draws.items s.opening.rows drawn (none_told s.opening.state s.opening.first) (attended d1 u1) (told_behind s.opening.rows s.opening.first x)
      has_attended d1 u1 x does = record { none_yet = refl; no_tails_yet = refl; all_came_yet = refl; does = does.0; first_is = refl; put_is = refl; heard = does.1; others = refl }

      tells : (d1 : DoorFacts) (u1 : HubValue) (x : Attended) (new : World) (end : Result Done Stop) → AttendsWith s draws.items d1 u1 (Ok x)
          → Tells (PutsImage (string_bytes words.image)) (told_behind s.opening.rows s.opening.first x) (TellsHosted words.awaited) (attended d1 u1) new end → TellsWith s draws.items drawn new end
      tells d1 u1 x new (Ok d) does rest =
          (rest.0, record { between = attended d1 u1; so_far = told_behind s.opening.rows s.opening.first x; given = has_attended d1 u1 x does; rest = rest.1 }, rest.2)
      tells d1 u1 x new (Err e) does rest =
          inr (record { between = attended d1 u1; so_far = told_behind s.opening.rows s.opening.first x; given = has_attended d1 u1 x does; rest = rest })

      pub all_steps : (d1 : DoorFacts) (u1 : HubValue) (x : Attended) (new : World) (end : Result Done Stop) → AttendsWith s draws.items d1 u1 (Ok x)
          → Tells (PutsImage (string_bytes words.image)) (told_behind s.opening.rows s.opening.first x) (TellsHosted words.awaited) (attended d1 u1) new end → HostsWith words file before new end
      all_steps d1 u1 x new end does rest =
          passes Opens _ before opened new s end opens
          (noise_on (DrawsAll words.links) _ opened n n1 new draws end draw stood (tells d1 u1 x new end does rest))

      -- and with the log file, which keeps what came
      pub all_filed : (d1 : DoorFacts) (u1 : HubValue) (x : Attended) (new : World) (end : Result Done Stop) (middle left : Option FileState) → AttendsWith s draws.items d1 u1 (Ok x)
          → Tells (PutsImage (string_bytes words.image)) (told_behind s.opening.rows s.opening.first x) (TellsHosted words.awaited) (attended d1 u1) new end
          → IfSome file (IsFileOpened words.log b new.bay)
          → KeepsSeenIf s.opening.state.log x.state.log file middle → IfOk end (λ d. KeepsRest x.state.log middle left) → IfErr end (λ e. EndsKeeping x.state.log middle left) → HostsFile words left before new end
      all_filed d1 u1 x new (Ok d) middle left does rest is_opened seen kept stops =
          let hosts : HostsWith words file before new (Ok d) =
          record {
            value = s;
            between = opened;
            given = opens;
            rest = record {
              value = draws;
              between = drawn;
              given = record { does = draw; faults = stood; others = refl };
              rest = (rest.0, record { between = attended d1 u1; so_far = told_behind s.opening.rows s.opening.first x; given = has_attended d1 u1 x does; rest = rest.1 }, rest.2);
            };
          } in
          filed_done words file left before new d hosts is_opened (keeps_all s.opening.state.log x.state.log file middle left seen kept)
      all_filed d1 u1 x new (Err e) middle left does rest is_opened seen kept stops =
          file_stops words file left before new e (all_steps d1 u1 x new (Err e) does rest) is_opened
          (put_stops (string_bytes words.image) (told_behind s.opening.rows s.opening.first x) (attended d1 u1) new file left e rest (all_stops s.opening.state.log x.state.log file middle left seen stops))
