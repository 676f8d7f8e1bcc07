-- Commands whose last part may run a session: what it owes goes by the status of its end. The steps before it leave the door
-- as it was, so what is told of a link that is back is told of the whole command.
use Rattle.std.proofs.Common.{◌≡◌, ◌≢◌, ◌∙◌, ◌⊎◌, inl, inr, ap, arith}
use Rattle.std.specs.Prelude.{Result, Ok, Err}
use Rattle.willow_outside.specs.Facts.{ShelfFacts, NoiseFacts}
use Rattle.peer_stage.specs.World.{World, NeverFall, Unfailed}
use Rattle.peer_stage.specs.Status.{status_of}
use Rattle.peer_stage.specs.Steps.{Step, Then, IsPassed, Inside, OnShelf, OnNoise}
use Rattle.peer_stage.specs.declared.outcome.Done.{Done}
use Rattle.peer_stage.specs.declared.outcome.Stop.{Stop}
use Rattle.peer_stage.specs.declared.outcome.Stop.TheVariants as stop
use Rattle.peer_stage.proofs.Faults.{no_fault, no_fault_at_want}
use Rattle.peer_stage.proofs.Owing.{Owes, onward, unfailed_on}

-- ---- the door

abbrev pub KeepsDoor : {A : Type 0} → Step A → Type 0
KeepsDoor {A} step = (old new : World) (end : Result A Stop) → step old new end → new.door ≡ old.door

pub inside_keeps : {A : Type 0} (P : Result A Stop → Type 0) → KeepsDoor (Inside P)
inside_keeps P old new end s = ap (λ (w : World). w.door) s.1

pub shelf_keeps : {A : Type 0} (P : ShelfFacts → ShelfFacts → Result A Stop → Type 0) → KeepsDoor (OnShelf P)
shelf_keeps P old new end s = ap (λ (w : World). w.door) s.others

pub noise_keeps : {A : Type 0} (P : NoiseFacts → NoiseFacts → Result A Stop → Type 0) → KeepsDoor (OnNoise P)
noise_keeps P old new end s = ap (λ (w : World). w.door) s.others

pub then_keeps : {A B : Type 0} (first : Step A) (next : A → Step B) → KeepsDoor first → ((a : A) → KeepsDoor (next a)) → KeepsDoor (Then first next)
then_keeps first next one two old new (Ok b) p = two p.value p.between new (Ok b) p.rest ∙ one old p.between (Ok p.value) p.given
then_keeps first next one two old new (Err e) (inl s) = one old new (Err e) s
then_keeps first next one two old new (Err e) (inr p) = two p.value p.between new (Err e) p.rest ∙ one old p.between (Ok p.value) p.given

-- ---- what a step owes

-- more may be read and written
pub owes_more : {A : Type 0} (reads writes reads' writes' : World → World → Type 0) (needs : World → Type 0) (leaves : A → World → Type 0) (step : Step A)
    → ((old new : World) → reads old new → reads' old new) → ((old new : World) → writes old new → writes' old new) → Owes reads writes needs leaves step → Owes reads' writes' needs leaves step
owes_more reads writes reads' writes' needs leaves step more_read more_written owes =
    record {
      counts = owes.counts;
      unfailed = owes.unfailed;
      read_fault = λ old new s. more_read old new (owes.read_fault old new s);
      write_fault = λ old new s. more_written old new (owes.write_fault old new s);
      usage = owes.usage;
      stops = owes.stops;
      goes_on = owes.goes_on;
    }

-- What a step owes that ends a command, by the status of its end.
pub record Closes (reads writes wants_later : World → World → Type 0) (step : Step Done) : Type 0 where
  pub counts : (old new : World) (end : Result Done Stop) → step old new end → NeverFall old new
  pub unfailed : (old new : World) (end : Result Done Stop) → step old new end → status_of end ≢ 3 → status_of end ≢ 4 → status_of end ≢ 7 → Unfailed old new
  pub want : (old new : World) (end : Result Done Stop) → step old new end → status_of end ≡ 7 → Unfailed old new ⊎ wants_later old new
  pub usage : (old new : World) (end : Result Done Stop) → step old new end → status_of end ≡ 2 → ⊥
  pub read_fault : (old new : World) (end : Result Done Stop) → step old new end → status_of end ≡ 3 → reads old new
  pub write_fault : (old new : World) (end : Result Done Stop) → step old new end → status_of end ≡ 4 → writes old new

-- what rose behind steps that left the door as it was rose in all
abbrev pub LastsAtDoor : (World → World → Type 0) → Type 0
LastsAtDoor rose = (old between new : World) → NeverFall old between → between.door ≡ old.door → rose between new → rose old new

-- what was counted behind steps that left the door as it was, without a fault, was counted in all
abbrev pub LastsBehind : (World → World → Type 0) → Type 0
LastsBehind rose = (old between new : World) → Unfailed old between → between.door ≡ old.door → rose between new → rose old new

module _ {A : Type 0} (reads writes wants_later : World → World → Type 0) (needs : World → Type 0) (leaves : A → World → Type 0) (first : Step A) (next : A → Step Done)
    (reads_last : LastsAtDoor reads) (writes_last : LastsAtDoor writes) (want_lasts : LastsBehind wants_later) (one : Owes reads writes needs leaves first) (keeps : KeepsDoor first) (two : (a : A) → Closes reads writes wants_later (next a)) where
  counts : (old new : World) (end : Result Done Stop) → Then first next old new end → NeverFall old new
  counts old new (Ok d) p = onward old p.between new (one.counts old p.between (Ok p.value) p.given) ((two p.value).counts p.between new (Ok d) p.rest)
  counts old new (Err e) (inl s) = one.counts old new (Err e) s
  counts old new (Err e) (inr p) = onward old p.between new (one.counts old p.between (Ok p.value) p.given) ((two p.value).counts p.between new (Err e) p.rest)

  unfailed : (old new : World) (end : Result Done Stop) → Then first next old new end → status_of end ≢ 3 → status_of end ≢ 4 → status_of end ≢ 7 → Unfailed old new
  unfailed old new (Ok d) p three four seven = unfailed_on old p.between new (one.unfailed old p.between (Ok p.value) tt p.given) ((two p.value).unfailed p.between new (Ok d) p.rest three four seven)
  unfailed old new (Err e) (inl s) three four seven = one.unfailed old new (Err e) (no_fault (Err e) three four) s
  unfailed old new (Err e) (inr p) three four seven = unfailed_on old p.between new (one.unfailed old p.between (Ok p.value) tt p.given) ((two p.value).unfailed p.between new (Err e) p.rest three four seven)

  -- nothing is hidden behind a step without a fault
  wanted : (old new : World) (end : Result Done Stop) (p : IsPassed first next old new end) → status_of end ≡ 7 → Unfailed old new ⊎ wants_later old new
  wanted old new end p seven =
      let stood = one.unfailed old p.between (Ok p.value) tt p.given in
      elim ((two p.value).want p.between new end p.rest seven) [
        | inl same ↦ inl (unfailed_on old p.between new stood same)
        | inr later ↦ inr (want_lasts old p.between new stood (keeps old p.between (Ok p.value) p.given) later)
      ]

  want : (old new : World) (end : Result Done Stop) → Then first next old new end → status_of end ≡ 7 → Unfailed old new ⊎ wants_later old new
  want old new (Ok d) p seven = wanted old new (Ok d) p seven
  want old new (Err e) (inl s) seven = inl (one.unfailed old new (Err e) (no_fault_at_want (Err e) seven) s)
  want old new (Err e) (inr p) seven = wanted old new (Err e) p seven

  -- a stop of the first step
  stopped_usage : (old new : World) (e : Stop) → first old new (Err e) → status_of (Err e) ≡ 2 → ⊥
  stopped_usage old new stop.Usage s is = one.usage old new s
  stopped_usage old new e s is = omega (arith, is)

  stopped_read : (old new : World) (e : Stop) → first old new (Err e) → status_of (Err e) ≡ 3 → reads old new
  stopped_read old new stop.ReadFault s is = one.read_fault old new s
  stopped_read old new e s is = absurd (omega (arith, is))

  stopped_write : (old new : World) (e : Stop) → first old new (Err e) → status_of (Err e) ≡ 4 → writes old new
  stopped_write old new stop.WriteFault s is = one.write_fault old new s
  stopped_write old new e s is = absurd (omega (arith, is))

  usage : (old new : World) (end : Result Done Stop) → Then first next old new end → status_of end ≡ 2 → ⊥
  usage old new (Ok d) p is = (two p.value).usage p.between new (Ok d) p.rest is
  usage old new (Err e) (inl s) is = stopped_usage old new e s is
  usage old new (Err e) (inr p) is = (two p.value).usage p.between new (Err e) p.rest is

  read_fault : (old new : World) (end : Result Done Stop) → Then first next old new end → status_of end ≡ 3 → reads old new
  read_fault old new (Ok d) p is = reads_last old p.between new (one.counts old p.between (Ok p.value) p.given) (keeps old p.between (Ok p.value) p.given) ((two p.value).read_fault p.between new (Ok d) p.rest is)
  read_fault old new (Err e) (inl s) is = stopped_read old new e s is
  read_fault old new (Err e) (inr p) is = reads_last old p.between new (one.counts old p.between (Ok p.value) p.given) (keeps old p.between (Ok p.value) p.given) ((two p.value).read_fault p.between new (Err e) p.rest is)

  write_fault : (old new : World) (end : Result Done Stop) → Then first next old new end → status_of end ≡ 4 → writes old new
  write_fault old new (Ok d) p is = writes_last old p.between new (one.counts old p.between (Ok p.value) p.given) (keeps old p.between (Ok p.value) p.given) ((two p.value).write_fault p.between new (Ok d) p.rest is)
  write_fault old new (Err e) (inl s) is = stopped_write old new e s is
  write_fault old new (Err e) (inr p) is = writes_last old p.between new (one.counts old p.between (Ok p.value) p.given) (keeps old p.between (Ok p.value) p.given) ((two p.value).write_fault p.between new (Err e) p.rest is)

  pub then_closes : Closes reads writes wants_later (Then first next)
  then_closes = record { counts = counts; unfailed = unfailed; want = want; usage = usage; read_fault = read_fault; write_fault = write_fault }
