-- The rows that come of an input that is read in pieces, whatever is done with them.
use Rattle.std.specs.Prelude.{◌≡◌, ℕ, ◌+◌, ◌<◌, List, ◌++◌, length, map, Option, Some, None, Result, Ok, Err}
use Rattle.std.specs.Global.{Vec}
use Rattle.std.specs.List.{AllByRecursion}
use Rattle.std.specs.Io.KnownBytes.{Consumes}
use Rattle.willow_outside.specs.Facts.{SourceFacts}
use Rattle.cap_codec.specs.Rows.{RawValue, row_of, AreFrames, IsRawRow, FitsFrame}
use Rattle.cap_codec.specs.Streams.{FramesStopAt}
use Rattle.row_stream.specs.Streams.{IsStream}
use Rattle.row_stream.specs.Feeding.{StreamState, Finishes}
use Rattle.row_stream.specs.declared.refusal.StreamRefusal.{StreamRefusal}
use Rattle.row_stream.specs.declared.refusal.StreamRefusal.TheVariants.{BadFrame, FrameTooLong, CutShort}
use Rattle.peer_stage.specs.Stages.{IsInput, IsReadShort, IsReadWhole}
use Rattle.peer_stage.specs.declared.stage.TheConstants.{INPUT_LIMIT}
use Rattle.peer_stage.specs.declared.outcome.Stop.{Stop}
use Rattle.peer_stage.specs.declared.outcome.Stop.TheVariants as stop
use Rattle.peer_rows.specs.Join.{AreRightSoFar, BeginNoFrames, StopsInput}
use Rattle.peer_rows.specs.Logged.{FitsLog}
use Rattle.peer_rows.specs.declared.reading.Reading.{Reading}

-- ---- pieces

-- these bytes were fed to the stream, and these rows became whole
pub record AreFed (bytes : List ℕ) (rows : List RawValue) (state : StreamState) : Type 0 where
  pub fit : AllByRecursion FitsFrame rows
  pub unrefused : state.refusal ≡ None
  pub stream : IsStream IsRawRow 0 bytes (map row_of rows) state.begun None
  pub all_fed : state.at + length state.begun ≡ length bytes

-- the bytes stop at this place to be frames of rows, and what stands there is wrong whatever comes behind
pub record AreWrong (bytes : List ℕ) (at : ℕ) : Type 0 where
  pub wrong : FramesStopAt bytes at
  pub cause : BeginNoFrames bytes
  pub judged : (rows : List RawValue) → AreRightSoFar bytes rows → ⊥

-- How the feeding of a piece ends behind these rows, where the bytes are all with this piece. Without memory the stream is not
-- refused.
abbrev pub FeedsPiece : List ℕ → List RawValue → StreamState → Result (Vec RawValue) Stop → Type 0
FeedsPiece bytes rows state (Ok more) = AreFed bytes (rows ++ more.items) state
FeedsPiece bytes rows state (Err (stop.BadInput origin at)) = AreWrong bytes at × IsInput origin
FeedsPiece bytes rows state (Err stop.NoMemory) = state.refusal ≡ None
FeedsPiece bytes rows state (Err e) = ⊥

-- the offset that a refusal tells
abbrev pub offset_of : StreamRefusal → ℕ
offset_of (BadFrame at) = at
offset_of (FrameTooLong at) = at
offset_of (CutShort at) = at

-- how the stream ends behind its last piece: a refusal is told as bad input at its offset
abbrev pub EndsStream : StreamState → Result (Unit {0}) Stop → Type 0
EndsStream state (Ok u) = Finishes state (Ok u)
EndsStream state (Err (stop.BadInput origin at)) = ((refusal : StreamRefusal) × Finishes state (Err refusal) × (at ≡ offset_of refusal)) × IsInput origin
EndsStream state (Err e) = ⊥

-- ---- reads

-- these rows came, of bytes that were read without a fault or the end; so many bytes may follow
pub record HaveCome (old now : SourceFacts) (reading : Reading) (rows : List RawValue) : Type 0 where
  pub bytes : List ℕ
  pub consumed : Consumes old.left now.left bytes
  pub fed : AreFed bytes rows reading.stream
  pub count : length bytes + reading.left ≡ INPUT_LIMIT
  pub room : 0 < length reading.piece.items
  pub not_ended : now.ends ≡ old.ends
  pub no_fault : now.faults ≡ old.faults

-- the input was read whole, and is the frames of these rows
pub record AreAll (old now : SourceFacts) (rows : List RawValue) : Type 0 where
  pub bytes : List ℕ
  pub read : IsReadWhole INPUT_LIMIT old now bytes
  pub frames : AreFrames bytes rows

-- more may be read: the bytes taken are within the limit, the end was not met, and the stream is not refused
pub record MayReadOn (old now : SourceFacts) (reading : Reading) : Type 0 where
  pub short : IsReadShort INPUT_LIMIT old now
  pub unrefused : reading.stream.refusal ≡ None

-- so the reading stops behind these rows, whatever rows were had before, if each that would be stored finds room
abbrev pub StopsBehind : SourceFacts → SourceFacts → List RawValue → Stop → Type 0
StopsBehind old now rows e = (namespace : List ℕ) (had : List RawValue) → FitsLog namespace (had ++ rows) → StopsInput namespace had old now e

-- what came of one more read behind these rows: more of them, or the input ended, or the reading stops
abbrev pub ComesNext : SourceFacts → SourceFacts → Reading → List RawValue → Result (Option (Vec RawValue)) Stop → Type 0
ComesNext old now reading rows (Ok (Some more)) = HaveCome old now reading (rows ++ more.items)
ComesNext old now reading rows (Ok None) = AreAll old now rows
ComesNext old now reading rows (Err e) = StopsBehind old now rows e
