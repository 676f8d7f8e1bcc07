-- Why a call of a keeper is refused.
use Rattle.std.specs.Prelude.{◌≡◌, ℕ, Result, Ok, Err}
use Rattle.spelling.specs.declared.ending.End.{End}
use Rattle.spelling.specs.declared.ending.End.TheVariants.{Refused, NoMemory}
use Rattle.willow_outside.specs.Counts.{HasRisen}
use Rattle.willow_outside.specs.Facts.{DiskFacts}
use Rattle.log_keeper.specs.declared.refusal.KeepRefusal.{KeepRefusal}
use Rattle.log_keeper.specs.declared.refusal.KeepRefusal.TheVariants.{ReadFailed, WriteFailed, BadLog}

-- no count of faults rose
pub record CountsNoFault (old new : DiskFacts) : Type 0 where
  pub reads : new.read_faults ≡ old.read_faults
  pub writes : new.write_faults ≡ old.write_faults

-- A refusal has a cause: of a failed read or write that the count named with it rose, and of a bad log that it is bad at
-- that place. Want of memory hides no fault.
abbrev pub HasCause : (ℕ → Type 0) → DiskFacts → DiskFacts → End KeepRefusal → Type 0
HasCause bad old new (Refused ReadFailed) = HasRisen old.read_faults new.read_faults × (new.write_faults ≡ old.write_faults)
HasCause bad old new (Refused WriteFailed) = (new.read_faults ≡ old.read_faults) × HasRisen old.write_faults new.write_faults
HasCause bad old new (Refused (BadLog at)) = bad at × CountsNoFault old new
HasCause bad old new NoMemory = CountsNoFault old new

-- this holds where the refusal is no failed write
abbrev pub IfUnwritten : End KeepRefusal → Type 0 → Type 0
IfUnwritten (Refused ReadFailed) P = P
IfUnwritten (Refused WriteFailed) P = Unit {0}
IfUnwritten (Refused (BadLog at)) P = P
IfUnwritten NoMemory P = P

-- how a call ends
abbrev pub EndsByCause : {A : Type 0} → (ℕ → Type 0) → DiskFacts → DiskFacts → Result A (End KeepRefusal) → Type 0
EndsByCause bad old new (Ok x) = CountsNoFault old new
EndsByCause bad old new (Err why) = HasCause bad old new why
