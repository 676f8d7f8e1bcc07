-- What a step owes passes to steps one behind the other, and makes a command lawful.
use Rattle.std.proofs.Common.{◌≡◌, ◌≢◌, ◌∙◌, ℕ, ◌≤◌, inl, inr, List, refl, sym, subst, arith}
use Rattle.std.specs.Prelude.{Result, Ok, Err}
use Rattle.willow_outside.specs.Counts.{Rose}
use Rattle.willow_outside.specs.Facts.{ShelfFacts, SourceFacts, SinkFacts, NoiseFacts, DoorFacts}
use Rattle.peer_stage.specs.World.{World, NeverFall, Unfailed}
use Rattle.peer_stage.specs.Deed.{Deed, IsLawful, IsUnbuilt, not_built}
use Rattle.peer_stage.specs.Stages.{Writes}
use Rattle.peer_stage.specs.Status.{status_of}
use Rattle.peer_stage.specs.Steps.{Step, Then, Inside, OnInput, OnOutput, OnShelf, OnNoise, OnDoor}
use Rattle.peer_stage.specs.declared.outcome.Done.{Done}
use Rattle.peer_stage.specs.declared.outcome.Stop.{Stop}
use Rattle.peer_stage.specs.declared.outcome.Stop.TheVariants as stop
use Rattle.peer_stage.proofs.Ends.{IsCondition, IsLocal, done_small}
use Rattle.peer_stage.proofs.Faults.{EndsUnfailed, no_fault, no_fault_at_want, never_falls, stood}

-- ---- counts

pub stands : (w : World) → NeverFall w w
stands w =
    record {
      shelf_reads = omega arith;
      shelf_writes = omega arith;
      input_faults = omega arith;
      input_ends = omega arith;
      output_faults = omega arith;
      report_faults = omega arith;
      door_faults = omega arith;
      noise_faults = omega arith;
      bay_faults = omega arith;
    }

pub onward : (old between new : World) → NeverFall old between → NeverFall between new → NeverFall old new
onward old between new a b =
    record {
      shelf_reads = omega (arith, a.shelf_reads, b.shelf_reads);
      shelf_writes = omega (arith, a.shelf_writes, b.shelf_writes);
      input_faults = omega (arith, a.input_faults, b.input_faults);
      input_ends = omega (arith, a.input_ends, b.input_ends);
      output_faults = omega (arith, a.output_faults, b.output_faults);
      report_faults = omega (arith, a.report_faults, b.report_faults);
      door_faults = omega (arith, a.door_faults, b.door_faults);
      noise_faults = omega (arith, a.noise_faults, b.noise_faults);
      bay_faults = omega (arith, a.bay_faults, b.bay_faults);
    }

pub unfailed_same : (w : World) → Unfailed w w
unfailed_same w = record { shelf_reads = refl; shelf_writes = refl; input = refl; output = refl; report = refl; door = refl; noise = refl; bay = refl }

pub unfailed_on : (old between new : World) → Unfailed old between → Unfailed between new → Unfailed old new
unfailed_on old between new a b =
    record {
      shelf_reads = b.shelf_reads ∙ a.shelf_reads;
      shelf_writes = b.shelf_writes ∙ a.shelf_writes;
      input = b.input ∙ a.input;
      output = b.output ∙ a.output;
      report = b.report ∙ a.report;
      door = b.door ∙ a.door;
      noise = b.noise ∙ a.noise;
      bay = b.bay ∙ a.bay;
    }

-- a count that did not fall and then rose has risen
pub rose_behind : (before mid now : ℕ) → before ≤ mid → Rose mid now → Rose before now
rose_behind before mid now up rose = omega (arith, up, rose)

-- ---- steps

-- No count falls in a step, and no fault is passed over. It stops for a fault only where a count rose of what is read or written, and never as no
-- command. Where what it needs holds, no condition stops it, and what it leaves holds behind it.
pub record Owes {A : Type 0} (reads writes : World → World → Type 0) (needs : World → Type 0) (leaves : A → World → Type 0) (step : Step A) : Type 0 where
  pub counts : (old new : World) (end : Result A Stop) → step old new end → NeverFall old new
  pub unfailed : (old new : World) (end : Result A Stop) → EndsUnfailed end → step old new end → Unfailed old new
  pub read_fault : (old new : World) → step old new (Err stop.ReadFault) → reads old new
  pub write_fault : (old new : World) → step old new (Err stop.WriteFault) → writes old new
  pub usage : (old new : World) → step old new (Err stop.Usage) → ⊥
  pub stops : (old new : World) (e : Stop) → needs old → IsCondition e → step old new (Err e) → ⊥
  pub goes_on : (old new : World) (a : A) → needs old → step old new (Ok a) → leaves a new

-- what rose behind rose in all
abbrev pub IsLasting : (World → World → Type 0) → Type 0
IsLasting rose = (old between new : World) → NeverFall old between → rose between new → rose old new

pub none_lasts : IsLasting (λ old new. ⊥)
none_lasts old between new counts rose = rose

pub input_lasts : IsLasting (λ old new. Rose old.input.faults new.input.faults)
input_lasts old between new counts rose = rose_behind _ _ _ counts.input_faults rose

pub output_lasts : IsLasting (λ old new. Rose old.output.faults new.output.faults)
output_lasts old between new counts rose = rose_behind _ _ _ counts.output_faults rose

module _ {A B : Type 0} (reads writes : World → World → Type 0) (needs : World → Type 0) (between : A → World → Type 0) (leaves : B → World → Type 0) (first : Step A) (next : A → Step B)
    (reads_last : IsLasting reads) (writes_last : IsLasting writes) (one : Owes reads writes needs between first) (two : (a : A) → Owes reads writes (between a) leaves (next a)) where
  then_counts : (old new : World) (end : Result B Stop) → Then first next old new end → NeverFall old new
  then_counts old new (Ok b) p = onward old p.between new (one.counts old p.between (Ok p.value) p.given) ((two p.value).counts p.between new (Ok b) p.rest)
  then_counts old new (Err e) (inl s) = one.counts old new (Err e) s
  then_counts old new (Err e) (inr p) = onward old p.between new (one.counts old p.between (Ok p.value) p.given) ((two p.value).counts p.between new (Err e) p.rest)

  then_unfailed : (old new : World) (end : Result B Stop) → EndsUnfailed end → Then first next old new end → Unfailed old new
  then_unfailed old new (Ok b) none p = unfailed_on old p.between new (one.unfailed old p.between (Ok p.value) tt p.given) ((two p.value).unfailed p.between new (Ok b) none p.rest)
  then_unfailed old new (Err e) none (inl s) = one.unfailed old new (Err e) none s
  then_unfailed old new (Err e) none (inr p) = unfailed_on old p.between new (one.unfailed old p.between (Ok p.value) tt p.given) ((two p.value).unfailed p.between new (Err e) none p.rest)

  pub then_owes : Owes reads writes needs leaves (Then first next)
  then_owes =
      record {
        counts = then_counts;
        unfailed = then_unfailed;
        read_fault = λ old new meets. elim meets [
          | inl s ↦ one.read_fault old new s
          | inr p ↦ reads_last old p.between new (one.counts old p.between (Ok p.value) p.given) ((two p.value).read_fault p.between new p.rest)
        ];
        write_fault = λ old new meets. elim meets [
          | inl s ↦ one.write_fault old new s
          | inr p ↦ writes_last old p.between new (one.counts old p.between (Ok p.value) p.given) ((two p.value).write_fault p.between new p.rest)
        ];
        usage = λ old new meets. elim meets [
          | inl s ↦ one.usage old new s
          | inr p ↦ (two p.value).usage p.between new p.rest
        ];
        stops = λ old new e need condition meets. elim meets [
          | inl s ↦ one.stops old new e need condition s
          | inr p ↦ (two p.value).stops p.between new e (one.goes_on old p.between p.value need p.given) condition p.rest
        ];
        goes_on = λ old new b need p. (two p.value).goes_on p.between new b (one.goes_on old p.between p.value need p.given) p.rest;
      }

-- ---- one object

pub inside_counts : {A : Type 0} (P : Result A Stop → Type 0) (old new : World) (end : Result A Stop) → Inside P old new end → NeverFall old new
inside_counts P old new end s = subst (λ (w : World). NeverFall old w) (sym s.1) (stands old)

pub input_counts : {A : Type 0} (P : SourceFacts → SourceFacts → Result A Stop → Type 0) (old new : World) (end : Result A Stop) → OnInput P old new end → NeverFall old new
input_counts P old new end s = subst (λ (w : World). NeverFall old w) (sym s.others) (record { shelf_reads = omega arith; shelf_writes = omega arith; input_faults = never_falls _ _ end s.faults; input_ends = s.ends; output_faults = omega arith; report_faults = omega arith; door_faults = omega arith; noise_faults = omega arith; bay_faults = omega arith })

pub output_counts : {A : Type 0} (P : SinkFacts → SinkFacts → Result A Stop → Type 0) (old new : World) (end : Result A Stop) → OnOutput P old new end → NeverFall old new
output_counts P old new end s = subst (λ (w : World). NeverFall old w) (sym s.others) (record { shelf_reads = omega arith; shelf_writes = omega arith; input_faults = omega arith; input_ends = omega arith; output_faults = never_falls _ _ end s.faults; report_faults = omega arith; door_faults = omega arith; noise_faults = omega arith; bay_faults = omega arith })

pub shelf_counts : {A : Type 0} (P : ShelfFacts → ShelfFacts → Result A Stop → Type 0) (old new : World) (end : Result A Stop) → OnShelf P old new end → NeverFall old new
shelf_counts P old new end s = subst (λ (w : World). NeverFall old w) (sym s.others) (record { shelf_reads = never_falls _ _ end s.read_faults; shelf_writes = never_falls _ _ end s.write_faults; input_faults = omega arith; input_ends = omega arith; output_faults = omega arith; report_faults = omega arith; door_faults = omega arith; noise_faults = omega arith; bay_faults = omega arith })

pub noise_counts : {A : Type 0} (P : NoiseFacts → NoiseFacts → Result A Stop → Type 0) (old new : World) (end : Result A Stop) → OnNoise P old new end → NeverFall old new
noise_counts P old new end s = subst (λ (w : World). NeverFall old w) (sym s.others) (record { shelf_reads = omega arith; shelf_writes = omega arith; input_faults = omega arith; input_ends = omega arith; output_faults = omega arith; report_faults = omega arith; door_faults = omega arith; noise_faults = never_falls _ _ end s.faults; bay_faults = omega arith })

pub door_counts : {A : Type 0} (P : DoorFacts → DoorFacts → Result A Stop → Type 0) (old new : World) (end : Result A Stop) → OnDoor P old new end → NeverFall old new
door_counts P old new end s = subst (λ (w : World). NeverFall old w) (sym s.others) (record { shelf_reads = omega arith; shelf_writes = omega arith; input_faults = omega arith; input_ends = omega arith; output_faults = omega arith; report_faults = omega arith; door_faults = never_falls _ _ end s.faults; noise_faults = omega arith; bay_faults = omega arith })

-- ---- no fault of one object is passed over

pub inside_unfailed : {A : Type 0} (P : Result A Stop → Type 0) (old new : World) (end : Result A Stop) → EndsUnfailed end → Inside P old new end → Unfailed old new
inside_unfailed P old new end none s = subst (λ (w : World). Unfailed old w) (sym s.1) (unfailed_same old)

pub input_unfailed : {A : Type 0} (P : SourceFacts → SourceFacts → Result A Stop → Type 0) (old new : World) (end : Result A Stop) → EndsUnfailed end → OnInput P old new end → Unfailed old new
input_unfailed P old new end none s = subst (λ (w : World). Unfailed old w) (sym s.others) (record { shelf_reads = refl; shelf_writes = refl; input = stood _ _ end none s.faults; output = refl; report = refl; door = refl; noise = refl; bay = refl })

pub output_unfailed : {A : Type 0} (P : SinkFacts → SinkFacts → Result A Stop → Type 0) (old new : World) (end : Result A Stop) → EndsUnfailed end → OnOutput P old new end → Unfailed old new
output_unfailed P old new end none s = subst (λ (w : World). Unfailed old w) (sym s.others) (record { shelf_reads = refl; shelf_writes = refl; input = refl; output = stood _ _ end none s.faults; report = refl; door = refl; noise = refl; bay = refl })

pub shelf_unfailed : {A : Type 0} (P : ShelfFacts → ShelfFacts → Result A Stop → Type 0) (old new : World) (end : Result A Stop) → EndsUnfailed end → OnShelf P old new end → Unfailed old new
shelf_unfailed P old new end none s = subst (λ (w : World). Unfailed old w) (sym s.others) (record { shelf_reads = stood _ _ end none s.read_faults; shelf_writes = stood _ _ end none s.write_faults; input = refl; output = refl; report = refl; door = refl; noise = refl; bay = refl })

pub noise_unfailed : {A : Type 0} (P : NoiseFacts → NoiseFacts → Result A Stop → Type 0) (old new : World) (end : Result A Stop) → EndsUnfailed end → OnNoise P old new end → Unfailed old new
noise_unfailed P old new end none s = subst (λ (w : World). Unfailed old w) (sym s.others) (record { shelf_reads = refl; shelf_writes = refl; input = refl; output = refl; report = refl; door = refl; noise = stood _ _ end none s.faults; bay = refl })

pub door_unfailed : {A : Type 0} (P : DoorFacts → DoorFacts → Result A Stop → Type 0) (old new : World) (end : Result A Stop) → EndsUnfailed end → OnDoor P old new end → Unfailed old new
door_unfailed P old new end none s = subst (λ (w : World). Unfailed old w) (sym s.others) (record { shelf_reads = refl; shelf_writes = refl; input = refl; output = refl; report = refl; door = stood _ _ end none s.faults; noise = refl; bay = refl })

-- ---- the last stage

writes_stops : (bytes : List ℕ) (done : Done) (o o' : SinkFacts) (e : Stop) → IsCondition e → Writes bytes done o o' (Err e) → ⊥
writes_stops bytes done o o' stop.WriteFault condition meets = condition
writes_stops bytes done o o' stop.NoMemory condition meets = condition
writes_stops bytes done o o' e condition meets = meets

pub writes_owe : (reads writes : World → World → Type 0) (needs : World → Type 0) (bytes : List ℕ) (done : Done)
    → ((old new : World) → Rose old.output.faults new.output.faults → writes old new) → Owes reads writes needs (λ d new. Unit {0}) (OnOutput (Writes bytes done))
writes_owe reads writes needs bytes done rose =
    record {
      counts = output_counts (Writes bytes done);
      unfailed = output_unfailed (Writes bytes done);
      read_fault = λ old new s. absurd s.does;
      write_fault = λ old new s. rose old new s.does.1;
      usage = λ old new s. s.does;
      stops = λ old new e need condition s. writes_stops bytes done old.output new.output e condition s.does;
      goes_on = λ old new d need s. tt;
    }

-- ---- commands that run no session

-- what the step does is done without one
abbrev pub StaysLocal : Step Done → Type 0
StaysLocal step = (old new : World) (d : Done) → step old new (Ok d) → IsLocal d

pub then_local : {A : Type 0} (first : Step A) (next : A → Step Done) → ((a : A) → StaysLocal (next a)) → StaysLocal (Then first next)
then_local first next stays old new d p = stays p.value p.between new d p.rest

pub writes_local : (bytes : List ℕ) (done : Done) → IsLocal done → StaysLocal (OnOutput (Writes bytes done))
writes_local bytes done is old new d s = subst IsLocal (sym s.does.1) is

module _ (deed : Deed) (needs : World → Type 0) (leaves : Done → World → Type 0) (built : deed.unbuilt → ⊥) (ready : (old new : World) → deed.ready old new → needs old)
    (local : StaysLocal deed.meets) (owes : Owes deed.reads deed.writes needs leaves deed.meets) where
  done_so : (old new : World) (d : Done) → deed.meets old new (Ok d) → status_of (Ok d) ≤ 1
  done_so old new d meets = done_small d (local old new d meets)

  no_usage : (old new : World) (end : Result Done Stop) → deed.meets old new end → status_of end ≡ 2 → ⊥
  no_usage old new (Ok d) meets is = omega (arith, done_so old new d meets, is)
  no_usage old new (Err stop.Usage) meets is = owes.usage old new meets
  no_usage old new (Err e) meets is = omega (arith, is)

  read : (old new : World) (end : Result Done Stop) → deed.meets old new end → status_of end ≡ 3 → deed.reads old new
  read old new (Ok d) meets is = absurd (omega (arith, done_so old new d meets, is))
  read old new (Err stop.ReadFault) meets is = owes.read_fault old new meets
  read old new (Err e) meets is = absurd (omega (arith, is))

  wrote : (old new : World) (end : Result Done Stop) → deed.meets old new end → status_of end ≡ 4 → deed.writes old new
  wrote old new (Ok d) meets is = absurd (omega (arith, done_so old new d meets, is))
  wrote old new (Err stop.WriteFault) meets is = owes.write_fault old new meets
  wrote old new (Err e) meets is = absurd (omega (arith, is))

  small : (old new : World) (end : Result Done Stop) → deed.meets old new end → deed.ready old new → (deed.reads old new → ⊥) → (deed.writes old new → ⊥) → status_of end ≢ 7 → status_of end ≤ 1
  small old new (Ok d) meets is_ready no_read no_write memory = done_so old new d meets
  small old new (Err (stop.Refused refusal)) meets is_ready no_read no_write memory = omega arith
  small old new (Err stop.ReadFault) meets is_ready no_read no_write memory = absurd (no_read (owes.read_fault old new meets))
  small old new (Err stop.WriteFault) meets is_ready no_read no_write memory = absurd (no_write (owes.write_fault old new meets))
  small old new (Err stop.NoMemory) meets is_ready no_read no_write memory = absurd (memory refl)
  small old new (Err e) meets is_ready no_read no_write memory = absurd (owes.stops old new e (ready old new is_ready) tt meets)

  pub lawful : IsLawful deed
  lawful =
      record {
        counts = owes.counts;
        unfailed = λ old new end meets three four seven. owes.unfailed old new end (no_fault end three four) meets;
        want = λ old new end meets seven. inl (owes.unfailed old new end (no_fault_at_want end seven) meets);
        usage = λ old new end meets is. absurd (no_usage old new end meets is);
        no_run = λ old new end meets unbuilt. absurd (built unbuilt);
        read_fault = read;
        write_fault = wrote;
        ends = small;
      }

-- ---- a command that is not built yet

unbuilt_same : (old new : World) (end : Result Done Stop) → IsUnbuilt old new end → new ≡ old
unbuilt_same old new (Err stop.Usage) is = is
unbuilt_same old new end is = absurd is

unbuilt_status : (old new : World) (end : Result Done Stop) → IsUnbuilt old new end → status_of end ≡ 2
unbuilt_status old new (Err stop.Usage) is = refl
unbuilt_status old new end is = absurd is

pub not_built_is_lawful : IsLawful not_built
not_built_is_lawful =
    record {
      counts = λ old new end meets. subst (λ (w : World). NeverFall old w) (sym (unbuilt_same old new end meets)) (stands old);
      unfailed = λ old new end meets three four seven. subst (λ (w : World). Unfailed old w) (sym (unbuilt_same old new end meets)) (unfailed_same old);
      want = λ old new end meets seven. inl (subst (λ (w : World). Unfailed old w) (sym (unbuilt_same old new end meets)) (unfailed_same old));
      usage = λ old new end meets is. (tt, unbuilt_same old new end meets);
      no_run = λ old new end meets unbuilt. unbuilt_status old new end meets;
      read_fault = λ old new end meets is. omega (arith, is, unbuilt_status old new end meets);
      write_fault = λ old new end meets is. omega (arith, is, unbuilt_status old new end meets);
      ends = λ old new end meets ready no_read no_write memory. absurd ready;
    }
