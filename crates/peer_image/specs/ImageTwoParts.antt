-- What the steps of a reader of images of version 2 answer.
use Rattle.std.specs.Prelude.{◌≡◌, ℕ, ◌<◌, ◌≤◌, ◌+◌, ◌↔◌, Bool, true, false, List, [], ◌∷◌, ◌++◌, length, map, take, slice_index_or, Result, Ok, Err}
use Rattle.std.specs.List.{flat_map, AllByRecursion}
use Rattle.spelling.specs.declared.ending.End.{End}
use Rattle.spelling.specs.declared.ending.End.TheVariants.{Refused, NoMemory}
use Rattle.spelling.specs.declared.ending.NotHere.{NotHere}
use Rattle.mc_cap.specs.declared.capability.Capability.{Capability}
use Rattle.cap_codec.specs.declared.numbered.NumberedRow.{NumberedRow}
use Rattle.cap_codec.specs.Numbered.{FitsCapability, capability_frame, numbered_frame}
use Rattle.cap_codec.specs.Rows.{RawValue}
use Rattle.peer_image.specs.declared.refusal.ImageRefusal.{ImageRefusal}
use Rattle.peer_image.specs.declared.refusal.ImageRefusal.TheVariants.{BadImage}
use Rattle.peer_image.specs.ImageTwoReading.{AreRising, FitsBelow, HasNoHigher, HasNoRow, IsToldBy, row_among}

-- a capability that stands above those told is told in front of the bytes, or none is
abbrev pub TellsNext : List Capability → List ℕ → Result (Capability × ℕ) (End NotHere) → Type 0
TellsNext told bytes (Ok x) = FitsCapability x.0 × AreRising (told ++ x.0 ∷ []) × (x.1 ≤ length bytes) × (take x.1 bytes ≡ capability_frame x.0)
TellsNext told bytes (Err (Refused e)) = HasNoHigher told bytes
TellsNext told bytes (Err NoMemory) = Unit {0}

-- a row with the number that it tells, in a frame of so many bytes
pub record IsRowInFront (told : List Capability) (bytes : List ℕ) (row : RawValue) (number taken : ℕ) : Type 0 where
  pub numbered : NumberedRow
  pub fits : FitsBelow (length told) numbered
  pub row_is : row ≡ row_among told numbered
  pub number_is : number ≡ numbered.number
  pub within : taken ≤ length bytes
  pub spelled : take taken bytes ≡ numbered_frame numbered

-- such a row stands in front of the bytes, or none does
abbrev pub ReadsRow : List Capability → List ℕ → Result (RawValue × ℕ × ℕ) (End NotHere) → Type 0
ReadsRow told bytes (Ok x) = IsRowInFront told bytes x.0 x.1 x.2
ReadsRow told bytes (Err (Refused e)) = HasNoRow (length told) bytes
ReadsRow told bytes (Err NoMemory) = Unit {0}

-- there is a mark for each capability, and it is set just where a row tells the capability
pub record AreMarked (marks : List Bool) (count : ℕ) (numbered : List NumberedRow) : Type 0 where
  pub long : length marks ≡ count
  pub marked : (k : ℕ) → k < count → (slice_index_or marks k false ≡ true) ↔ IsToldBy numbered k

-- Some rows stand in front of what is left. Where marks tell the capabilities of rows before them, these marks tell those of
-- all.
pub record RowsSo (told : List Capability) (bytes : List ℕ) (old : List Bool) (rows : List RawValue) (marks : List Bool) (left : List ℕ) : Type 0 where
  pub numbered : List NumberedRow
  pub fit : AllByRecursion (FitsBelow (length told)) numbered
  pub parts : bytes ≡ flat_map numbered_frame numbered ++ left
  pub rows_are : rows ≡ map (row_among told) numbered
  pub marked : (before : List NumberedRow) → AreMarked old (length told) before → AreMarked marks (length told) (before ++ numbered)

-- they are at most so many, and where they are fewer, no further row stands behind them
pub record IsPartTwo (told : List Capability) (bytes : List ℕ) (most : ℕ) (old : List Bool) (rows : List RawValue) (marks : List Bool) (left : List ℕ) : Type 0 where
  pub so : RowsSo told bytes old rows marks left
  pub within : length rows ≤ most
  pub ended : length rows < most → HasNoRow (length told) left

-- some rows, at most so many, stand in front of the bytes, and marks that told capabilities of rows before them tell those
-- of these too
pub record HasMarkedSome (told : List Capability) (bytes : List ℕ) (most : ℕ) (old marks : List Bool) : Type 0 where
  pub rows : List RawValue
  pub left : List ℕ
  pub so : RowsSo told bytes old rows marks left
  pub within : length rows ≤ most

-- the bytes go wrong where these are left
pub record GoesBadAt (bytes left : List ℕ) (e : End ImageRefusal) : Type 0 where
  pub at : ℕ
  pub is : e ≡ Refused (BadImage at)
  pub place : at + length left ≡ length bytes
