-- How a count moves over one call, and which answers it is the cause of.
use Rattle.std.specs.Prelude.{◌≡◌, ℕ, ◌+◌, ◌-◌, ◌^◌, ◌<◌, ◌≤◌, min, List, length, Result, Ok, Err}
use Rattle.spelling.specs.declared.ending.End.{End}
use Rattle.spelling.specs.declared.ending.End.TheVariants as ends
use Rattle.willow_outside.specs.declared.fault.Fault.{Fault}
use Rattle.willow_outside.specs.declared.fault.Fault.TheVariants.{Failed, NoMemory}
use Rattle.willow_outside.specs.declared.reading.ReadEnd.{ReadEnd}
use Rattle.willow_outside.specs.declared.reading.ReadEnd.TheVariants as read_ends

-- one more, up to the last value of a u64
abbrev pub one_more : ℕ → ℕ
one_more count = min (count + 1) (2 ^ 64 - 1)

-- so many more, up to that value
abbrev pub many_more : ℕ → ℕ → ℕ
many_more more count = min (count + more) (2 ^ 64 - 1)

-- a count rose, or stands at the last value of a u64
abbrev pub Rose : ℕ → ℕ → Type 0
Rose before now = one_more before ≤ now

-- a count rose in a call that failed
pub record HasRisen (before now : ℕ) : Type 0 where
  pub never_falls : before ≤ now
  pub rose : Rose before now

-- a count of faults rises where the call failed, and stays at want of memory, which hides no fault
abbrev pub CountsCause : ℕ → ℕ → Fault → Type 0
CountsCause before now Failed = HasRisen before now
CountsCause before now NoMemory = now ≡ before

-- and stays where the call did its work
abbrev pub CountsFault : {A : Type 0} → ℕ → ℕ → Result A Fault → Type 0
CountsFault before now (Ok x) = now ≡ before
CountsFault before now (Err fault) = CountsCause before now fault

-- So too over all reads up to the end. Where the bytes are too many none failed.
abbrev pub CountsReads : {A : Type 0} → ℕ → ℕ → Result A (End ReadEnd) → Type 0
CountsReads before now (Ok x) = now ≡ before
CountsReads before now (Err (ends.Refused read_ends.Failed)) = HasRisen before now
CountsReads before now (Err (ends.Refused read_ends.TooLong)) = now ≡ before
CountsReads before now (Err ends.NoMemory) = now ≡ before

-- a count of ends rises where a read with room gave nothing, and stays where it gave some or had no room
pub record CountsEnd (before now given : ℕ) (buf : List ℕ) : Type 0 where
  pub never_falls : before ≤ now
  pub at_end : given ≡ 0 → 0 < length buf → Rose before now
  pub gave_some : 0 < given → now ≡ before
  pub no_room : length buf ≡ 0 → now ≡ before

-- the end of a read's bytes is counted so, and no fault is an end
abbrev pub EndHasCause : {E : Type 0} → ℕ → ℕ → Result ℕ E → List ℕ → Type 0
EndHasCause before now (Ok n) buf = CountsEnd before now n buf
EndHasCause before now (Err e) buf = now ≡ before

-- a write of some bytes takes at least one
abbrev pub TakesSome : {E : Type 0} → Result ℕ E → List ℕ → Type 0
TakesSome (Ok n) piece = 0 < length piece → 0 < n
TakesSome (Err e) piece = Unit {0}
