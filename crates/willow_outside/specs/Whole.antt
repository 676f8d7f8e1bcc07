-- Reading up to the end and writing all: what was taken and what was given where that did not end well.
use Rattle.std.specs.Prelude.{ℕ, ◌<◌, ◌≤◌, List, length, take, Result, Ok, Err}
use Rattle.std.specs.declared.option.Option.{Option}
use Rattle.std.specs.Io.KnownBytes.{Consumes, Appends}
use Rattle.spelling.specs.declared.ending.End.{End}
use Rattle.spelling.specs.declared.ending.End.TheVariants.{Refused, NoMemory}
use Rattle.willow_outside.specs.declared.reading.ReadEnd.{ReadEnd}
use Rattle.willow_outside.specs.declared.reading.ReadEnd.TheVariants.{Failed, TooLong}

-- at most so many bytes were taken off
abbrev pub TookAtMost : Option (List ℕ) → Option (List ℕ) → ℕ → Type 0
TookAtMost old new limit = (bs : List ℕ) × Consumes old new bs × (length bs ≤ limit)

-- more than so many bytes were taken off
abbrev pub TookMore : Option (List ℕ) → Option (List ℕ) → ℕ → Type 0
TookMore old new limit = (bs : List ℕ) × Consumes old new bs × (limit < length bs)

-- what was taken off where not all bytes were answered: more than the limit exactly where they are too many
abbrev pub TookBefore : Option (List ℕ) → Option (List ℕ) → ℕ → End ReadEnd → Type 0
TookBefore old new limit (Refused Failed) = TookAtMost old new limit
TookBefore old new limit (Refused TooLong) = TookMore old new limit
TookBefore old new limit NoMemory = TookAtMost old new limit

-- all bytes were given, or at a fault a front of them that is not all
abbrev pub GivesAll : {E : Type 0} → Option (List ℕ) → Option (List ℕ) → List ℕ → Result (Unit {0}) E → Type 0
GivesAll old new bytes (Ok u) = Appends old new bytes
GivesAll old new bytes (Err e) = (k : ℕ) × (k < length bytes) × Appends old new (take k bytes)
