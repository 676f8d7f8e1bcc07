-- Steps put together from the stages of the code. The objects that a stage does not call are as they were.
use Rattle.std.proofs.Common.{◌≡◌, ℕ, ◌≤◌, inl, inr, List, refl, subst}
use Rattle.std.specs.Prelude.{Result, Ok, Err}
use Rattle.willow_outside.specs.Facts.{ShelfFacts, SourceFacts, SinkFacts, NoiseFacts, DoorFacts}
use Rattle.peer_stage.specs.World.{World}
use Rattle.peer_stage.specs.Faults.{CountsStop, CountsStep}
use Rattle.peer_stage.specs.Steps.{Step, Then, Inside, OnInput, OnOutput, OnShelf, OnNoise, OnDoor}
use Rattle.peer_stage.specs.Stages.{IsWritten, Writes, WritesOutput}
use Rattle.peer_stage.specs.declared.outcome.Done.{Done}
use Rattle.peer_stage.specs.declared.outcome.Stop.{Stop}
use Rattle.peer_stage.specs.declared.outcome.Stop.TheVariants as stop

-- a value that was given, and what ended so over it
pub passes : {A B : Type 0} (first : Step A) (next : A → Step B) (old between new : World) (value : A) (end : Result B Stop)
    → first old between (Ok value) → next value between new end → Then first next old new end
passes first next old between new value (Ok b) given rest = record { value = value; between = between; given = given; rest = rest }
passes first next old between new value (Err e) given rest = inr (record { value = value; between = between; given = given; rest = rest })

stops : (bytes : List ℕ) (done : Done) (o o' : SinkFacts) (e : Stop) → WritesOutput o o' bytes (Err e) → Writes bytes done o o' (Err e)
stops bytes done o o' stop.WriteFault w = w
stops bytes done o o' stop.NoMemory w = inr w
stops bytes done o o' e w = absurd w

-- a step inside gave a value
pub inside_on : {A B : Type 0} (P : Result A Stop → Type 0) (next : A → Step B) (old new : World) (value : A) (end : Result B Stop) → P (Ok value) → next value old new end → Then (Inside P) next old new end
inside_on P next old new value end does rest = passes (Inside P) next old old new value end (does, refl) rest

-- a step on the input gave a value
pub input_on : {A B : Type 0} (P : SourceFacts → SourceFacts → Result A Stop → Type 0) (next : A → Step B) (others : World) (i i' : SourceFacts) (new : World) (value : A) (end : Result B Stop)
    → P i i' (Ok value) → i'.faults ≡ i.faults → i.ends ≤ i'.ends → next value (record others { input = i' }) new end → Then (OnInput P) next (record others { input = i }) new end
input_on P next others i i' new value end does faults ends rest =
    passes (OnInput P) next (record others { input = i }) (record others { input = i' }) new value end (record { does = does; faults = faults; ends = ends; others = refl }) rest

-- a step on the shelf gave a value
pub shelf_on : {A B : Type 0} (P : ShelfFacts → ShelfFacts → Result A Stop → Type 0) (next : A → Step B) (others : World) (h h' : ShelfFacts) (new : World) (value : A) (end : Result B Stop)
    → P h h' (Ok value) → h'.read_faults ≡ h.read_faults → h'.write_faults ≡ h.write_faults → next value (record others { shelf = h' }) new end → Then (OnShelf P) next (record others { shelf = h }) new end
shelf_on P next others h h' new value end does read_faults write_faults rest =
    passes (OnShelf P) next (record others { shelf = h }) (record others { shelf = h' }) new value end (record { does = does; read_faults = read_faults; write_faults = write_faults; others = refl }) rest

-- a step on the noise gave a value
pub noise_on : {A B : Type 0} (P : NoiseFacts → NoiseFacts → Result A Stop → Type 0) (next : A → Step B) (others : World) (n n' : NoiseFacts) (new : World) (value : A) (end : Result B Stop)
    → P n n' (Ok value) → n'.faults ≡ n.faults → next value (record others { noise = n' }) new end → Then (OnNoise P) next (record others { noise = n }) new end
noise_on P next others n n' new value end does faults rest =
    passes (OnNoise P) next (record others { noise = n }) (record others { noise = n' }) new value end (record { does = does; faults = faults; others = refl }) rest

-- a step on the door gave a value
pub door_on : {A B : Type 0} (P : DoorFacts → DoorFacts → Result A Stop → Type 0) (next : A → Step B) (others : World) (d d' : DoorFacts) (new : World) (value : A) (end : Result B Stop)
    → P d d' (Ok value) → d'.faults ≡ d.faults → next value (record others { door = d' }) new end → Then (OnDoor P) next (record others { door = d }) new end
door_on P next others d d' new value end does faults rest =
    passes (OnDoor P) next (record others { door = d }) (record others { door = d' }) new value end (record { does = does; faults = faults; others = refl }) rest

-- a fault in the last stage, which was to write these bytes
pub stops_writing : (bytes given : List ℕ) (done : Done) (o o' : SinkFacts) (e : Stop) → given ≡ bytes → WritesOutput o o' given (Err e) → Writes bytes done o o' (Err e)
stops_writing bytes given done o o' e same w = stops bytes done o o' e (subst (λ (b : List ℕ). WritesOutput o o' b (Err e)) same w)

-- the last stage came to its end
pub has_written : (bytes given : List ℕ) (done : Done) (o o' : SinkFacts) → given ≡ bytes → IsWritten o o' given → Writes bytes done o o' (Ok done)
has_written bytes given done o o' same w = (subst (λ (b : List ℕ). IsWritten o o' b) same w, refl)

-- ---- a command that reads the input, and writes what it makes of it

module _ {A : Type 0} (reads : SourceFacts → SourceFacts → Result A Stop → Type 0) (bytes : A → List ℕ) (done : A → Done) (others : World) where
  -- the input and the output, and the others
  abbrev objects : SourceFacts → SinkFacts → World
  objects i o = record others { input = i; output = o }

  pub stops_reading : (i i' : SourceFacts) (o : SinkFacts) (e : Stop) → reads i i' (Err e) → CountsStop i.faults i'.faults e → i.ends ≤ i'.ends
      → Then (OnInput reads) (λ a. OnOutput (Writes (bytes a) (done a))) (objects i o) (objects i' o) (Err e)
  stops_reading i i' o e does faults ends = inl (record { does = does; faults = faults; ends = ends; others = refl })

  pub reads_and_writes : (i i' : SourceFacts) (o o' : SinkFacts) (a : A) (end : Result Done Stop) → reads i i' (Ok a) → i'.faults ≡ i.faults → i.ends ≤ i'.ends
      → Writes (bytes a) (done a) o o' end → CountsStep o.faults o'.faults end
      → Then (OnInput reads) (λ a. OnOutput (Writes (bytes a) (done a))) (objects i o) (objects i' o') end
  reads_and_writes i i' o o' a end does faults ends writes moved =
      passes (OnInput reads) (λ a. OnOutput (Writes (bytes a) (done a))) (objects i o) (objects i' o) (objects i' o') a end
      (record { does = does; faults = faults; ends = ends; others = refl }) (record { does = writes; faults = moved; others = refl })
