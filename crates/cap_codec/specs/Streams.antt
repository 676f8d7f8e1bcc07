-- Streams of frames: which rows they carry, and where one that is no stream of frames stops.
use Rattle.std.specs.Prelude.{◌≡◌, ℕ, ◌<◌, List, ◌++◌, length, Result, Ok, Err}
use Rattle.std.specs.List.{AllByRecursion, flat_map}
use Rattle.spelling.specs.declared.ending.End.{End}
use Rattle.spelling.specs.declared.ending.End.TheVariants.{Refused, NoMemory}
use Rattle.cap_codec.specs.declared.frame.BadFrames.{BadFrames}
use Rattle.cap_codec.specs.Rows.{RawValue, FitsFrame, frame, AreFrames}

-- no row's frame stands in front
abbrev pub HasNoFrame : List ℕ → Type 0
HasNoFrame left = (r : RawValue) (rest : List ℕ) → FitsFrame r → left ≡ frame r ++ rest → ⊥

-- the frames of these rows stand in front, and no further one in front of what is left
pub record AreAllFrames (bytes : List ℕ) (rows : List RawValue) (left : List ℕ) : Type 0 where
  pub fit : AllByRecursion FitsFrame rows
  pub parts : bytes ≡ flat_map frame rows ++ left
  pub no_frame : HasNoFrame left

-- behind the frames of some rows, which are the first `at` bytes, stand further bytes that begin with no row's frame
pub record FramesStopAt (bytes : List ℕ) (at : ℕ) : Type 0 where
  pub rows : List RawValue
  pub left : List ℕ
  pub frames : AreAllFrames bytes rows left
  pub place : length (flat_map frame rows) ≡ at
  pub more : 0 < length left

-- the rows whose frames the bytes are, or where the first frame stands that is none
abbrev pub ReadsFrames : {X : Type 0} → (X → List RawValue) → List ℕ → Result X (End BadFrames) → Type 0
ReadsFrames view bytes (Ok rows) = AreFrames bytes (view rows)
ReadsFrames view bytes (Err (Refused e)) = FramesStopAt bytes e.at
ReadsFrames view bytes (Err NoMemory) = Unit {0}

-- bytes whose frames stop somewhere are the frames of no rows
abbrev pub FramesNeverStop : Type 0
FramesNeverStop = (bytes : List ℕ) (at : ℕ) (rows : List RawValue) → FramesStopAt bytes at → AreFrames bytes rows → ⊥

-- the frames of some bytes stop at one place at most
abbrev pub HaveOneStop : Type 0
HaveOneStop = (bytes : List ℕ) (at other : ℕ) → FramesStopAt bytes at → FramesStopAt bytes other → at ≡ other
