-- A disk in memory: the record of its calls, and what the record says of the contents and of what a crash may leave.
use Rattle.std.specs.Prelude.{◌≡◌, ◌⊎◌, ℕ, ◌<◌, ◌≤◌, Bool, true, false, List, [], ◌∷◌, ◌++◌, length, take, Option, Some, None, Result, Ok, Err}
use Rattle.std.specs.declared.alloc.Global.{Global}
use Rattle.std.specs.declared.vec.Vec.{Vec}
use Rattle.willow_outside.specs.declared.disk_tape.DiskCall.{DiskCall}
use Rattle.willow_outside.specs.declared.disk_tape.DiskCall.TheVariants.{Len, ReadAt, WriteAt, Sync}
use Rattle.willow_outside.specs.declared.fault.Fault.{Fault}
use Rattle.willow_outside.specs.declared.fault.Fault.TheVariants.{Failed, NoMemory}
use Rattle.willow_outside.specs.Disks.{written, IsTorn}
use Rattle.willow_outside.specs.Facts.{DiskFacts}
use Rattle.willow_outside.specs.Plan.{Plan, fails_next}

-- the contents, what they were at the last sync, and the ranges written since, the last of them first
pub record DiskState : Type 0 where
  pub contents : List ℕ
  pub synced : List ℕ
  pub pending : List (ℕ × ℕ)

-- contents that are all on the disk
abbrev pub at_rest : List ℕ → DiskState
at_rest contents = record { contents = contents; synced = contents; pending = [] }

-- A call leaves this. A write that failed leaves the contents, but its range is written.
abbrev pub after_call : DiskState → DiskCall → DiskState
after_call s Len = s
after_call s (ReadAt at size) = s
after_call s (WriteAt at bytes true) = record { contents = written at bytes.items s.contents; synced = s.synced; pending = (at, length bytes.items) ∷ s.pending }
after_call s (WriteAt at bytes false) = record { contents = s.contents; synced = s.synced; pending = (at, length bytes.items) ∷ s.pending }
after_call s (Sync true) = at_rest s.contents
after_call s (Sync false) = s

-- and several calls, in order
abbrev pub after_calls : DiskState → List DiskCall → DiskState
after_calls s [] = s
after_calls s (call ∷ calls) = after_calls (after_call s call) calls

-- the image is the bytes with these ranges torn
abbrev pub IsTornBy : List (ℕ × ℕ) → List ℕ → List ℕ → Type 0
IsTornBy [] synced image = image ≡ synced
IsTornBy (range ∷ earlier) synced image = (between : List ℕ) × IsTornBy earlier synced between × IsTorn range.0 range.1 between image

-- a crash in this state may leave the contents, or what they were at the last sync with the ranges written since torn
abbrev pub MayLeave : DiskState → List ℕ → Type 0
MayLeave s image = (image ≡ s.contents) ⊎ IsTornBy s.pending s.synced image

-- what a disk in memory held at first, and its calls since
pub record Tape : Type 0 where
  pub first : List ℕ
  pub calls : List DiskCall

-- the bytes of a tape, which are those at first until some are written
abbrev pub bytes_or : List ℕ → Option (Vec ℕ Global) → List ℕ
bytes_or first None = first
bytes_or first (Some changed) = changed.items

-- what a disk in memory held at first, its calls since, which of them fail, and its counts
pub record MemoryDisk : Type 0 where
  pub first : List ℕ
  pub calls : List DiskCall
  pub plan : Plan
  pub read_faults : ℕ
  pub write_faults : ℕ

-- the state after the first k calls
abbrev pub state_at : List ℕ → List DiskCall → ℕ → DiskState
state_at first calls k = after_calls (at_rest first) (take k calls)

-- the state now
abbrev pub state_now : List ℕ → List DiskCall → DiskState
state_now first calls = after_calls (at_rest first) calls

-- a crash after one of the calls from the t-th on may leave the image
abbrev pub LeftSince : List ℕ → List DiskCall → ℕ → List ℕ → Type 0
LeftSince first calls t image =
    MayLeave (state_now first calls) image ⊎ ((k : ℕ) × (t ≤ k) × (k < length calls) × MayLeave (state_at first calls k) image)

-- ---- a disk in memory

-- the bytes that it holds
abbrev pub contents_of : MemoryDisk → List ℕ
contents_of d = (state_now d.first d.calls).contents

-- what it tells
abbrev pub disk_facts_of : MemoryDisk → DiskFacts
disk_facts_of d = record { contents = Some (contents_of d); read_faults = d.read_faults; write_faults = d.write_faults }

-- a crash now may leave the image
abbrev pub left_by : MemoryDisk → List ℕ → Type 0
left_by d = MayLeave (state_now d.first d.calls)

-- a crash after one of its calls from the t-th on may leave the image
abbrev pub left_by_since : MemoryDisk → ℕ → List ℕ → Type 0
left_by_since d = LeftSince d.first d.calls

-- ---- one call more

-- the call joins the record at Ok, and at a fault not
abbrev pub Records : {A E : Type 0} → List DiskCall → List DiskCall → DiskCall → Result A E → Type 0
Records old new call (Ok x) = new ≡ old ++ call ∷ []
Records old new call (Err e) = new ≡ old

-- So too a write of these bytes.
abbrev pub RecordsWrite : {A E : Type 0} → List DiskCall → List DiskCall → ℕ → List ℕ → Bool → Result A E → Type 0
RecordsWrite old new at bytes done (Ok x) = (copy : Vec ℕ Global) × (copy.items ≡ bytes) × (new ≡ old ++ WriteAt at copy done ∷ [])
RecordsWrite old new at bytes done (Err e) = new ≡ old

-- A call that is to fail joins the record as this one, unless memory is wanting for that.
abbrev pub RecordsFault : Plan → List DiskCall → List DiskCall → DiskCall → Type 0
RecordsFault plan old new call = ((fails_next plan ≡ true) × (new ≡ old ++ call ∷ [])) ⊎ (new ≡ old)

-- the call joins the record as the first of these at Ok, and as the second where it is to fail
abbrev pub RecordsPlanned : {A : Type 0} → Plan → List DiskCall → List DiskCall → DiskCall → DiskCall → Result A Fault → Type 0
RecordsPlanned plan old new done failed (Ok x) = new ≡ old ++ done ∷ []
RecordsPlanned plan old new done failed (Err Failed) = RecordsFault plan old new failed
RecordsPlanned plan old new done failed (Err NoMemory) = new ≡ old

-- So too a write of these bytes.
abbrev pub WritesPlanned : {A : Type 0} → Plan → List DiskCall → List DiskCall → ℕ → List ℕ → Result A Fault → Type 0
WritesPlanned plan old new at bytes (Ok x) = (copy : Vec ℕ Global) × (copy.items ≡ bytes) × (new ≡ old ++ WriteAt at copy true ∷ [])
WritesPlanned plan old new at bytes (Err Failed) = ((copy : Vec ℕ Global) × (copy.items ≡ bytes) × RecordsFault plan old new (WriteAt at copy false)) ⊎ (new ≡ old)
WritesPlanned plan old new at bytes (Err NoMemory) = new ≡ old
