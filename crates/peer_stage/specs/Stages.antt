-- What the stages that commands share take of the input and give to the output.
use Rattle.std.specs.Prelude.{◌≡◌, ℕ, ◌≤◌, ◌<◌, ◌⊎◌, List, length, take, Result, Ok, Err}
use Rattle.std.specs.Global.{Vec}
use Rattle.std.specs.Io.KnownBytes.{Consumes, Appends, IsAtEnd}
use Rattle.willow_outside.specs.Counts.{Rose}
use Rattle.willow_outside.specs.Facts.{SourceFacts, SinkFacts}
use Rattle.peer_stage.specs.declared.outcome.Done.{Done}
use Rattle.peer_stage.specs.declared.outcome.Stop.{Stop}
use Rattle.peer_stage.specs.declared.outcome.Stop.TheVariants as stop
use Rattle.peer_stage.specs.declared.outcome.Origin.{Origin}
use Rattle.peer_stage.specs.declared.outcome.Origin.TheVariants as origin

-- ---- the input

-- the whole input was read: these bytes up to its end, within the limit
pub record IsReadWhole (limit : ℕ) (old new : SourceFacts) (bytes : List ℕ) : Type 0 where
  pub taken : Consumes old.left new.left bytes
  pub at_end : IsAtEnd new.left
  pub ended : Rose old.ends new.ends
  pub within : length bytes ≤ limit

-- the bytes taken pass the limit
pub record IsReadTooFar (limit : ℕ) (old new : SourceFacts) (bytes : List ℕ) : Type 0 where
  pub taken : Consumes old.left new.left bytes
  pub beyond : limit < length bytes

-- these bytes were taken, within the limit, before a read failed; the end was not met
pub record IsReadToFault (limit : ℕ) (old new : SourceFacts) (bytes : List ℕ) : Type 0 where
  pub taken : Consumes old.left new.left bytes
  pub within : length bytes ≤ limit
  pub not_ended : new.ends ≡ old.ends
  pub fault : Rose old.faults new.faults

-- bytes were taken, it may be none
abbrev pub IsReadSomewhat : SourceFacts → SourceFacts → Type 0
IsReadSomewhat old new = (bytes : List ℕ) × Consumes old.left new.left bytes

-- bytes were taken within the limit, and the end was not met
pub record IsReadShort (limit : ℕ) (old new : SourceFacts) : Type 0 where
  pub bytes : List ℕ
  pub taken : Consumes old.left new.left bytes
  pub within : length bytes ≤ limit
  pub not_ended : new.ends ≡ old.ends

-- the bytes came from the input
abbrev pub IsInput : Origin → Type 0
IsInput origin.Input = Unit {0}
IsInput (origin.Name name) = ⊥

-- how the reading of an input ends: bytes that are too many are told at the limit
abbrev pub ReadsInput : ℕ → SourceFacts → SourceFacts → Result (Vec ℕ) Stop → Type 0
ReadsInput limit old new (Ok v) = IsReadWhole limit old new v.items
ReadsInput limit old new (Err stop.ReadFault) = (bytes : List ℕ) × IsReadToFault limit old new bytes
ReadsInput limit old new (Err (stop.BadInput origin at)) = ((bytes : List ℕ) × IsReadTooFar limit old new bytes) × IsInput origin × (at ≡ limit)
ReadsInput limit old new (Err stop.NoMemory) = IsReadSomewhat old new
ReadsInput limit old new (Err e) = ⊥

-- ---- the output

-- these bytes were written
abbrev pub IsWritten : SinkFacts → SinkFacts → List ℕ → Type 0
IsWritten old new bytes = Appends old.held new.held bytes

-- a front of these bytes was written, which is not all of them
pub record IsPartlyWritten (old new : SinkFacts) (bytes : List ℕ) : Type 0 where
  pub count : ℕ
  pub within : count < length bytes
  pub written : Appends old.held new.held (take count bytes)

-- how the writing of some bytes ends; where there is nothing to write, and after all is written, nothing fails
abbrev pub WritesOutput : SinkFacts → SinkFacts → List ℕ → Result (Unit {0}) Stop → Type 0
WritesOutput old new bytes (Ok u) = IsWritten old new bytes
WritesOutput old new bytes (Err stop.WriteFault) = IsPartlyWritten old new bytes × Rose old.faults new.faults
WritesOutput old new bytes (Err stop.NoMemory) = IsPartlyWritten old new bytes
WritesOutput old new bytes (Err e) = ⊥

-- how a command ends whose last stage makes these bytes and writes them
abbrev pub Writes : List ℕ → Done → SinkFacts → SinkFacts → Result Done Stop → Type 0
Writes bytes done old new (Ok d) = IsWritten old new bytes × (d ≡ done)
Writes bytes done old new (Err stop.WriteFault) = IsPartlyWritten old new bytes × Rose old.faults new.faults
Writes bytes done old new (Err stop.NoMemory) = (new ≡ old) ⊎ IsPartlyWritten old new bytes
Writes bytes done old new (Err e) = ⊥
