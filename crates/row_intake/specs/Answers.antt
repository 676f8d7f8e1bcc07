-- What an answer says of what was written, of the rows that came, and of the counts of a link: the same for whatever is reported
-- where all went well.
use Rattle.std.specs.Prelude.{◌≡◌, ℕ, List, All, Result, Ok, Err}
use Rattle.willow_outside.specs.Counts.{HasRisen}
use Rattle.willow_entry.specs.Row.{RowValue, HasCovering}
use Rattle.session_end.specs.declared.end.SessionEnd.{SessionEnd}
use Rattle.session_end.specs.declared.end.SessionEnd.TheVariants.{LinkRead, LinkWrite, ClosedEarly, BadMessage, Hello, Core, SignFault, LogFull, NoMemory}
use Rattle.session_rules.specs.Rounds.{IsFront}
use Rattle.row_intake.specs.Kept.{CoversOrIsFull, Misses}

module _ {Report : Type 0} where
  -- All of the list; where a write or a signer failed or memory was wanting, a front of it.
  abbrev pub IsAllOf : {A : Type 0} → List A → List A → Result Report SessionEnd → Type 0
  IsAllOf all part (Ok report) = part ≡ all
  IsAllOf all part (Err LinkRead) = part ≡ all
  IsAllOf all part (Err LinkWrite) = IsFront part all
  IsAllOf all part (Err (ClosedEarly at)) = part ≡ all
  IsAllOf all part (Err (BadMessage at)) = part ≡ all
  IsAllOf all part (Err (Hello cause)) = part ≡ all
  IsAllOf all part (Err (Core cause)) = part ≡ all
  IsAllOf all part (Err SignFault) = IsFront part all
  IsAllOf all part (Err (LogFull missed)) = part ≡ all
  IsAllOf all part (Err NoMemory) = IsFront part all

  -- All of the rows that came; where a signer failed or memory was wanting, a front of them. A write that failed loses none.
  abbrev pub AreAllOf : List RowValue → List RowValue → Result Report SessionEnd → Type 0
  AreAllOf all part (Ok report) = part ≡ all
  AreAllOf all part (Err LinkRead) = part ≡ all
  AreAllOf all part (Err LinkWrite) = part ≡ all
  AreAllOf all part (Err (ClosedEarly at)) = part ≡ all
  AreAllOf all part (Err (BadMessage at)) = part ≡ all
  AreAllOf all part (Err (Hello cause)) = part ≡ all
  AreAllOf all part (Err (Core cause)) = part ≡ all
  AreAllOf all part (Err SignFault) = IsFront part all
  AreAllOf all part (Err (LogFull missed)) = part ≡ all
  AreAllOf all part (Err NoMemory) = IsFront part all

  -- The log covers the rows that came, but for those for which it had no room.
  abbrev pub Covers : List RowValue → List RowValue → Result Report SessionEnd → Type 0
  Covers log rows (Ok report) = All (HasCovering log) rows
  Covers log rows (Err LinkRead) = CoversOrIsFull log rows
  Covers log rows (Err LinkWrite) = CoversOrIsFull log rows
  Covers log rows (Err (ClosedEarly at)) = CoversOrIsFull log rows
  Covers log rows (Err (BadMessage at)) = CoversOrIsFull log rows
  Covers log rows (Err (Hello cause)) = CoversOrIsFull log rows
  Covers log rows (Err (Core cause)) = CoversOrIsFull log rows
  Covers log rows (Err SignFault) = Unit {0}
  Covers log rows (Err (LogFull missed)) = Misses log rows missed
  Covers log rows (Err NoMemory) = Unit {0}

  -- a count of reads that failed rose where that is answered, and nowhere else: no read that failed is told as want of memory
  abbrev pub CountsReads : ℕ → ℕ → Result Report SessionEnd → Type 0
  CountsReads before now (Ok report) = now ≡ before
  CountsReads before now (Err LinkRead) = HasRisen before now
  CountsReads before now (Err LinkWrite) = now ≡ before
  CountsReads before now (Err (ClosedEarly at)) = now ≡ before
  CountsReads before now (Err (BadMessage at)) = now ≡ before
  CountsReads before now (Err (Hello cause)) = now ≡ before
  CountsReads before now (Err (Core cause)) = now ≡ before
  CountsReads before now (Err SignFault) = now ≡ before
  CountsReads before now (Err (LogFull missed)) = now ≡ before
  CountsReads before now (Err NoMemory) = now ≡ before

  -- so does a count of writes that failed
  abbrev pub CountsWrites : ℕ → ℕ → Result Report SessionEnd → Type 0
  CountsWrites before now (Ok report) = now ≡ before
  CountsWrites before now (Err LinkRead) = now ≡ before
  CountsWrites before now (Err LinkWrite) = HasRisen before now
  CountsWrites before now (Err (ClosedEarly at)) = now ≡ before
  CountsWrites before now (Err (BadMessage at)) = now ≡ before
  CountsWrites before now (Err (Hello cause)) = now ≡ before
  CountsWrites before now (Err (Core cause)) = now ≡ before
  CountsWrites before now (Err SignFault) = now ≡ before
  CountsWrites before now (Err (LogFull missed)) = now ≡ before
  CountsWrites before now (Err NoMemory) = now ≡ before

  -- a count of ends rose where the other side ended too early, and nowhere else
  abbrev pub CountsEnds : ℕ → ℕ → Result Report SessionEnd → Type 0
  CountsEnds before now (Ok report) = now ≡ before
  CountsEnds before now (Err LinkRead) = now ≡ before
  CountsEnds before now (Err LinkWrite) = now ≡ before
  CountsEnds before now (Err (ClosedEarly at)) = HasRisen before now
  CountsEnds before now (Err (BadMessage at)) = now ≡ before
  CountsEnds before now (Err (Hello cause)) = now ≡ before
  CountsEnds before now (Err (Core cause)) = now ≡ before
  CountsEnds before now (Err SignFault) = now ≡ before
  CountsEnds before now (Err (LogFull missed)) = now ≡ before
  CountsEnds before now (Err NoMemory) = now ≡ before
