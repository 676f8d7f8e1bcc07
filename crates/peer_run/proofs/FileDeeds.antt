-- What a server owes for the step that opens its log file, and the steps round it.
use Rattle.std.proofs.Common.{◌≡◌, ◌≤◌, ◌⊎◌, ℕ, List, [], ◌∷◌, ◌++◌, Option, Some, None, inl, inr, refl, sym, ap, subst, arith}
use Rattle.std.specs.Prelude.{Result, Ok, Err}
use Rattle.std.specs.declared.string.String.{String}
use Rattle.std.specs.declared.alloc.Global.{Global}
use Rattle.willow_outside.specs.Facts.{BayFacts}
use Rattle.peer_words.specs.declared.command.AreaWords.{AreaWords}
use Rattle.peer_stage.specs.World.{World, NeverFall, Unfailed}
use Rattle.peer_stage.specs.Status.{status_of}
use Rattle.peer_stage.specs.Steps.{Step, Then}
use Rattle.peer_stage.specs.declared.outcome.Done.{Done}
use Rattle.peer_stage.specs.declared.outcome.Stop.{Stop}
use Rattle.peer_stage.specs.declared.outcome.Stop.TheVariants as stop
use Rattle.peer_stage.proofs.Closing.{Closes, KeepsDoor, LastsAtDoor, LastsBehind, owes_more, then_closes}
use Rattle.peer_stage.proofs.Faults.{EndsUnfailed, never_falls, stood}
use Rattle.peer_stage.proofs.Owing.{IsLasting, Owes, onward, stands, then_owes, unfailed_same}
use Rattle.peer_run.specs.Hosting.{BayReads, BayWrites}
use Rattle.peer_run.specs.LogFiles.{FileState}
use Rattle.peer_run.specs.LogOpening.{OnBay, OpensFile, OpensName, StopsOpening}
use Rattle.peer_run.specs.Preparing.{Prepares}
use Rattle.peer_run.proofs.SideBegun.{image_same}
use Rattle.peer_run.proofs.SideDeeds.{GotReads, GotWrites, Nothing, behind_owes, got_reads_last, got_writes_last, image_owes}

-- ---- either of two

abbrev pub Either : (World → World → Type 0) → (World → World → Type 0) → World → World → Type 0
Either one other old new = one old new ⊎ other old new

-- where it plays no part what rose
abbrev Any : World → World → Type 0
Any old new = Unit {0}

any_lasts : IsLasting Any
any_lasts old between new counts rose = tt

-- ---- a step behind which less is read and written

module _ {A B : Type 0} (reads writes more_reads more_writes : World → World → Type 0) (first : Step A) (next : A → Step B) (reads_last : IsLasting reads) (writes_last : IsLasting writes)
    (one : Owes (Either reads more_reads) (Either writes more_writes) Nothing (λ a. Nothing) first) (two : (a : A) → Owes reads writes Nothing (λ b. Nothing) (next a)) where
  any : Owes Any Any Nothing (λ b. Nothing) (Then first next)
  any =
      then_owes Any Any Nothing (λ a. Nothing) (λ b. Nothing) first next any_lasts any_lasts
      (owes_more (Either reads more_reads) (Either writes more_writes) Any Any Nothing (λ a. Nothing) first (λ old new rose. tt) (λ old new rose. tt) one)
      (λ a. owes_more reads writes Any Any Nothing (λ b. Nothing) (next a) (λ old new rose. tt) (λ old new rose. tt) (two a))

  pub then_owes_less : Owes (Either reads more_reads) (Either writes more_writes) Nothing (λ b. Nothing) (Then first next)
  then_owes_less =
      record {
        counts = any.counts;
        unfailed = any.unfailed;
        read_fault = λ old new meets. elim meets [
          | inl s ↦ one.read_fault old new s
          | inr p ↦ inl (reads_last old p.between new (one.counts old p.between (Ok p.value) p.given) ((two p.value).read_fault p.between new p.rest))
        ];
        write_fault = λ old new meets. elim meets [
          | inl s ↦ one.write_fault old new s
          | inr p ↦ inl (writes_last old p.between new (one.counts old p.between (Ok p.value) p.given) ((two p.value).write_fault p.between new p.rest))
        ];
        usage = any.usage;
        stops = any.stops;
        goes_on = any.goes_on;
      }

-- ---- and one that ends a command

module _ {A : Type 0} (reads writes more_reads more_writes wants_later : World → World → Type 0) (first : Step A) (next : A → Step Done) (reads_last : LastsAtDoor reads) (writes_last : LastsAtDoor writes) (want_lasts : LastsBehind wants_later)
    (one : Owes (Either reads more_reads) (Either writes more_writes) Nothing (λ a. Nothing) first) (keeps : KeepsDoor first) (two : (a : A) → Closes reads writes wants_later (next a)) where
  last : (a : A) → Closes Any Any wants_later (next a)
  last a = record { counts = (two a).counts; unfailed = (two a).unfailed; want = (two a).want; usage = (two a).usage; read_fault = λ old new end s is. tt; write_fault = λ old new end s is. tt }

  all : Closes Any Any wants_later (Then first next)
  all =
      then_closes Any Any wants_later Nothing (λ a. Nothing) first next (λ old between new counts same rose. tt) (λ old between new counts same rose. tt) want_lasts
      (owes_more (Either reads more_reads) (Either writes more_writes) Any Any Nothing (λ a. Nothing) first (λ old new rose. tt) (λ old new rose. tt) one) keeps last

  -- a stop of the first step
  stopped_read : (old new : World) (e : Stop) → first old new (Err e) → status_of (Err e) ≡ 3 → Either reads more_reads old new
  stopped_read old new stop.ReadFault s is = one.read_fault old new s
  stopped_read old new e s is = absurd (omega (arith, is))

  stopped_write : (old new : World) (e : Stop) → first old new (Err e) → status_of (Err e) ≡ 4 → Either writes more_writes old new
  stopped_write old new stop.WriteFault s is = one.write_fault old new s
  stopped_write old new e s is = absurd (omega (arith, is))

  read_fault : (old new : World) (end : Result Done Stop) → Then first next old new end → status_of end ≡ 3 → Either reads more_reads old new
  read_fault old new (Ok d) p is = inl (reads_last old p.between new (one.counts old p.between (Ok p.value) p.given) (keeps old p.between (Ok p.value) p.given) ((two p.value).read_fault p.between new (Ok d) p.rest is))
  read_fault old new (Err e) (inl s) is = stopped_read old new e s is
  read_fault old new (Err e) (inr p) is = inl (reads_last old p.between new (one.counts old p.between (Ok p.value) p.given) (keeps old p.between (Ok p.value) p.given) ((two p.value).read_fault p.between new (Err e) p.rest is))

  write_fault : (old new : World) (end : Result Done Stop) → Then first next old new end → status_of end ≡ 4 → Either writes more_writes old new
  write_fault old new (Ok d) p is = inl (writes_last old p.between new (one.counts old p.between (Ok p.value) p.given) (keeps old p.between (Ok p.value) p.given) ((two p.value).write_fault p.between new (Ok d) p.rest is))
  write_fault old new (Err e) (inl s) is = stopped_write old new e s is
  write_fault old new (Err e) (inr p) is = inl (writes_last old p.between new (one.counts old p.between (Ok p.value) p.given) (keeps old p.between (Ok p.value) p.given) ((two p.value).write_fault p.between new (Err e) p.rest is))

  pub then_closes_less : Closes (Either reads more_reads) (Either writes more_writes) wants_later (Then first next)
  then_closes_less = record { counts = all.counts; unfailed = all.unfailed; want = all.want; usage = all.usage; read_fault = read_fault; write_fault = write_fault }

-- ---- the log file

pub at_bay : (old new : World) → old.bay.faults ≤ new.bay.faults → new ≡ record old { bay = new.bay } → NeverFall old new
at_bay old new up others =
    subst (λ (w : World). NeverFall old w) (sym others)
    (record { shelf_reads = omega arith; shelf_writes = omega arith; input_faults = omega arith; input_ends = omega arith; output_faults = omega arith; report_faults = omega arith; door_faults = omega arith; noise_faults = omega arith; bay_faults = up })

pub bay_stood : (old new : World) → new.bay.faults ≡ old.bay.faults → new ≡ record old { bay = new.bay } → Unfailed old new
bay_stood old new same others =
    subst (λ (w : World). Unfailed old w) (sym others)
    (record { shelf_reads = refl; shelf_writes = refl; input = refl; output = refl; report = refl; door = refl; noise = refl; bay = same })

pub bay_counts : {A : Type 0} (P : BayFacts → BayFacts → Result A Stop → Type 0) (old new : World) (end : Result A Stop) → OnBay P old new end → NeverFall old new
bay_counts P old new end s = at_bay old new (never_falls _ _ end s.faults) s.others

pub bay_unfailed : {A : Type 0} (P : BayFacts → BayFacts → Result A Stop → Type 0) (old new : World) (end : Result A Stop) → EndsUnfailed end → OnBay P old new end → Unfailed old new
bay_unfailed P old new end none s = bay_stood old new (stood _ _ end none s.faults) s.others

-- a disk that is back, of which a count rose
opening_reads : (name : String Global) (n : List ℕ) (old new : World) → StopsOpening name n old.bay new.bay stop.ReadFault → BayReads old new
opening_reads name n old new (inl s) = inl s.1
opening_reads name n old new (inr s) = inr (record { disks = s.0 ∷ []; back = ap (λ (b : BayFacts). b.back) s.1.back; disk = s.0; among = (0, omega arith, refl); rose = s.2 })

opening_writes : (name : String Global) (n : List ℕ) (old new : World) → StopsOpening name n old.bay new.bay stop.WriteFault → BayWrites old new
opening_writes name n old new s = record { disks = s.0 ∷ []; back = ap (λ (b : BayFacts). b.back) s.1.back; disk = s.0; among = (0, omega arith, refl); rose = s.2 }

file_owes : (log : Option (String Global)) (file : Option FileState) (n : List ℕ) → Owes BayReads BayWrites Nothing (λ rows. Nothing) (OpensFile log file n)
file_owes None None n =
    record {
      counts = λ old new end s. subst (λ (w : World). NeverFall old w) (sym s.1) (stands old);
      unfailed = λ old new end none s. subst (λ (w : World). Unfailed old w) (sym s.1) (unfailed_same old);
      read_fault = λ old new s. absurd s.0;
      write_fault = λ old new s. absurd s.0;
      usage = λ old new s. s.0;
      stops = λ old new e need condition s. need;
      goes_on = λ old new rows need s. need;
    }
file_owes None (Some f) n =
    record {
      counts = λ old new end s. absurd s;
      unfailed = λ old new end none s. absurd s;
      read_fault = λ old new s. absurd s;
      write_fault = λ old new s. absurd s;
      usage = λ old new s. s;
      stops = λ old new e need condition s. need;
      goes_on = λ old new rows need s. need;
    }
file_owes (Some name) None n =
    record {
      counts = bay_counts (OpensName name n None);
      unfailed = bay_unfailed (OpensName name n None);
      read_fault = λ old new s. opening_reads name n old new s.does;
      write_fault = λ old new s. opening_writes name n old new s.does;
      usage = λ old new s. s.does;
      stops = λ old new e need condition s. need;
      goes_on = λ old new rows need s. need;
    }
file_owes (Some name) (Some f) n =
    record {
      counts = bay_counts (OpensName name n (Some f));
      unfailed = bay_unfailed (OpensName name n (Some f));
      read_fault = λ old new s. absurd s.does;
      write_fault = λ old new s. absurd s.does;
      usage = λ old new s. s.does;
      stops = λ old new e need condition s. need;
      goes_on = λ old new rows need s. need;
    }

module _ (image cap : String Global) (area : AreaWords) (log : Option (String Global)) (file : Option FileState) where
  some_more : {A : Type 0} (reads writes : World → World → Type 0) (step : Step A) → Owes reads writes Nothing (λ a. Nothing) step → Owes Any Any Nothing (λ a. Nothing) step
  some_more reads writes step owes = owes_more reads writes Any Any Nothing (λ a. Nothing) step (λ old new rose. tt) (λ old new rose. tt) owes

  anyhow : Owes Any Any Nothing (λ r. Nothing) (Prepares image cap area log file)
  anyhow =
      then_owes Any Any Nothing (λ i. Nothing) (λ r. Nothing) _ _ any_lasts any_lasts (some_more GotReads GotWrites _ (image_owes image))
      (λ i. then_owes Any Any Nothing (λ filed. Nothing) (λ r. Nothing) _ _ any_lasts any_lasts (some_more BayReads BayWrites _ (file_owes log file i.namespace))
      (λ filed. some_more GotReads GotWrites _ (behind_owes i.namespace (i.rows.items ++ filed.items) cap area)))

  prepared_reads : (old new : World) → Prepares image cap area log file old new (Err stop.ReadFault) → Either GotReads BayReads old new
  prepared_reads old new (inl s) = inl ((image_owes image).read_fault old new s)
  prepared_reads old new (inr p) =
      let one = image_same image old p.between p.value p.given in
      elim p.rest [
        | inl s ↦ inr (subst (λ (w : World). BayReads w new) one ((file_owes log file p.value.namespace).read_fault p.between new s))
        | inr f ↦
            let counts = onward old p.between f.between ((image_owes image).counts old p.between (Ok p.value) p.given) ((file_owes log file p.value.namespace).counts p.between f.between (Ok f.value) f.given) in
            inl (got_reads_last old f.between new counts ((behind_owes p.value.namespace (p.value.rows.items ++ f.value.items) cap area).read_fault f.between new f.rest))
      ]

  prepared_writes : (old new : World) → Prepares image cap area log file old new (Err stop.WriteFault) → Either GotWrites BayWrites old new
  prepared_writes old new (inl s) = inl ((image_owes image).write_fault old new s)
  prepared_writes old new (inr p) =
      let one = image_same image old p.between p.value p.given in
      elim p.rest [
        | inl s ↦ inr (subst (λ (w : World). BayWrites w new) one ((file_owes log file p.value.namespace).write_fault p.between new s))
        | inr f ↦
            let counts = onward old p.between f.between ((image_owes image).counts old p.between (Ok p.value) p.given) ((file_owes log file p.value.namespace).counts p.between f.between (Ok f.value) f.given) in
            inl (got_writes_last old f.between new counts ((behind_owes p.value.namespace (p.value.rows.items ++ f.value.items) cap area).write_fault f.between new f.rest))
      ]

  pub preparing_owes : Owes (Either GotReads BayReads) (Either GotWrites BayWrites) Nothing (λ r. Nothing) (Prepares image cap area log file)
  preparing_owes =
      record {
        counts = anyhow.counts;
        unfailed = anyhow.unfailed;
        read_fault = prepared_reads;
        write_fault = prepared_writes;
        usage = anyhow.usage;
        stops = anyhow.stops;
        goes_on = anyhow.goes_on;
      }
