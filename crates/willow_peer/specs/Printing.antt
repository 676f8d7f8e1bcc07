-- What a printer leaves of a line: all of it where it stays, and only a part where it leaves.
use Rattle.std.specs.Prelude.{◌≡◌, ℕ, ◌<◌, Bool, true, false, List, length, take}
use Rattle.std.specs.Io.KnownBytes.{Appends}
use Rattle.willow_outside.specs.Counts.{CountsCause}
use Rattle.willow_outside.specs.Facts.{SinkFacts}
use Rattle.willow_outside.specs.declared.fault.Fault.{Fault}
use Rattle.sub_hub.specs.declared.watcher.Wish.{Wish}
use Rattle.sub_hub.specs.declared.watcher.Wish.TheVariants.{Stay, Leave}

-- the output got the whole line, and no fault was counted
pub record IsPrinted (old new : SinkFacts) (line : List ℕ) : Type 0 where
  pub held : Appends old.held new.held line
  pub unfailed : new.faults ≡ old.faults

-- The output got so many bytes of the front of the line, but not the whole line: a write failed, which is counted, or no memory was
-- found, which is not.
pub record IsCutOff (old new : SinkFacts) (line : List ℕ) : Type 0 where
  pub count : ℕ
  pub not_whole : count < length line
  pub held : Appends old.held new.held (take count line)
  pub fault : Fault
  pub cause : CountsCause old.faults new.faults fault

-- by whether the line is said to be printed
abbrev pub PrintsLine : SinkFacts → SinkFacts → List ℕ → Bool → Type 0
PrintsLine old new line true = IsPrinted old new line
PrintsLine old new line false = IsCutOff old new line

-- by what the printer wishes: it stays where the line is printed, and leaves only where it is not
abbrev pub PrintsOrLeaves : SinkFacts → SinkFacts → List ℕ → Wish → Type 0
PrintsOrLeaves old new line Stay = IsPrinted old new line
PrintsOrLeaves old new line Leave = IsCutOff old new line
