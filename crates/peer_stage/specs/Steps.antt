-- A command by its steps: each gives a value to the next, or stops the command.
use Rattle.std.specs.Prelude.{◌≡◌, ◌≤◌, ◌⊎◌, Result, Ok, Err}
use Rattle.willow_outside.specs.Facts.{ShelfFacts, SourceFacts, SinkFacts, NoiseFacts, DoorFacts}
use Rattle.peer_stage.specs.World.{World}
use Rattle.peer_stage.specs.Faults.{CountsStep}
use Rattle.peer_stage.specs.declared.outcome.Stop.{Stop}

-- how a step leaves the objects, by what it gives or the stop that it met
abbrev pub Step : Type 0 → Type 1
Step A = World → World → Result A Stop → Type 0

-- the first gave a value, and the next ended so over it
pub record IsPassed {A B : Type 0} (first : Step A) (next : A → Step B) (old new : World) (end : Result B Stop) : Type 0 where
  pub value : A
  pub between : World
  pub given : first old between (Ok value)
  pub rest : next value between new end

-- the first stopped so, or gave a value, and the next ended so over it
abbrev pub Then : {A B : Type 0} → Step A → (A → Step B) → Step B
Then first next old new (Ok b) = IsPassed first next old new (Ok b)
Then first next old new (Err e) = first old new (Err e) ⊎ IsPassed first next old new (Err e)

-- ---- steps that touch at most one object, whose counts of faults move only where a fault is told

-- nothing outside is touched
abbrev pub Inside : {A : Type 0} → (Result A Stop → Type 0) → Step A
Inside P old new end = P end × (new ≡ old)

pub record OnInput {A : Type 0} (P : SourceFacts → SourceFacts → Result A Stop → Type 0) (old new : World) (end : Result A Stop) : Type 0 where
  pub does : P old.input new.input end
  pub faults : CountsStep old.input.faults new.input.faults end
  pub ends : old.input.ends ≤ new.input.ends
  pub others : new ≡ record old { input = new.input }

pub record OnOutput {A : Type 0} (P : SinkFacts → SinkFacts → Result A Stop → Type 0) (old new : World) (end : Result A Stop) : Type 0 where
  pub does : P old.output new.output end
  pub faults : CountsStep old.output.faults new.output.faults end
  pub others : new ≡ record old { output = new.output }

pub record OnShelf {A : Type 0} (P : ShelfFacts → ShelfFacts → Result A Stop → Type 0) (old new : World) (end : Result A Stop) : Type 0 where
  pub does : P old.shelf new.shelf end
  pub read_faults : CountsStep old.shelf.read_faults new.shelf.read_faults end
  pub write_faults : CountsStep old.shelf.write_faults new.shelf.write_faults end
  pub others : new ≡ record old { shelf = new.shelf }

pub record OnNoise {A : Type 0} (P : NoiseFacts → NoiseFacts → Result A Stop → Type 0) (old new : World) (end : Result A Stop) : Type 0 where
  pub does : P old.noise new.noise end
  pub faults : CountsStep old.noise.faults new.noise.faults end
  pub others : new ≡ record old { noise = new.noise }

pub record OnDoor {A : Type 0} (P : DoorFacts → DoorFacts → Result A Stop → Type 0) (old new : World) (end : Result A Stop) : Type 0 where
  pub does : P old.door new.door end
  pub faults : CountsStep old.door.faults new.door.faults end
  pub others : new ≡ record old { door = new.door }
