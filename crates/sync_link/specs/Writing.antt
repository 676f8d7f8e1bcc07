-- What comes of a write of all that is due.
use Rattle.std.specs.Prelude.{◌≡◌, ℕ, List, take, Option, Result, Ok, Err}
use Rattle.willow_outside.specs.Counts.{HasRisen}
use Rattle.willow_outside.specs.Told.{Extends}
use Rattle.session_end.specs.declared.end.SessionEnd.{SessionEnd}
use Rattle.session_end.specs.declared.end.SessionEnd.TheVariants.{LinkRead, LinkWrite, ClosedEarly, BadMessage, Hello, Core, SignFault, LogFull, NoMemory}

-- all of the bytes were written, or a front of them
abbrev pub WritesFront : {E : Type 0} → Option (List ℕ) → Option (List ℕ) → List ℕ → Result (Unit {0}) E → Type 0
WritesFront old new bytes (Ok u) = Extends old new bytes
WritesFront old new bytes (Err e) = (k : ℕ) × Extends old new (take k bytes)

-- a write failed, and the count of those that failed rose; or memory was wanting, and it stands; no other end comes
abbrev pub CountsWrite : {A : Type 0} → ℕ → ℕ → Result A SessionEnd → Type 0
CountsWrite before now (Ok u) = now ≡ before
CountsWrite before now (Err LinkRead) = ⊥
CountsWrite before now (Err LinkWrite) = HasRisen before now
CountsWrite before now (Err (ClosedEarly at)) = ⊥
CountsWrite before now (Err (BadMessage at)) = ⊥
CountsWrite before now (Err (Hello cause)) = ⊥
CountsWrite before now (Err (Core cause)) = ⊥
CountsWrite before now (Err SignFault) = ⊥
CountsWrite before now (Err (LogFull missed)) = ⊥
CountsWrite before now (Err NoMemory) = now ≡ before
