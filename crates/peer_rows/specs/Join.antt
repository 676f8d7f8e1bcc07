-- What `join` does: the image of the live rows among the authorised rows of the input.
use Rattle.std.specs.Prelude.{◌≡◌, ℕ, ◌≤◌, ◌⊎◌, List, [], ◌++◌, length, take, Result, Ok, Err}
use Rattle.std.specs.Io.KnownBytes.{Consumes}
use Rattle.willow_outside.specs.Facts.{SourceFacts}
use Rattle.willow_entry.specs.Row.{live}
use Rattle.cap_codec.specs.Rows.{RawValue, AreFrames}
use Rattle.cap_codec.specs.Streams.{FramesStopAt, AreAllFrames}
use Rattle.row_stream.specs.Places.{IsUnfinished}
use Rattle.peer_image.specs.Image.{image}
use Rattle.peer_rows.specs.Logged.{authorised_rows, AreCounts, FitsLog, PassesLog}
use Rattle.peer_stage.specs.Steps.{Step, Then, OnInput, OnOutput}
use Rattle.peer_stage.specs.Stages.{IsInput, IsReadWhole, IsReadTooFar, IsReadToFault, IsReadSomewhat, Writes}
use Rattle.peer_stage.specs.declared.stage.TheConstants.{INPUT_LIMIT}
use Rattle.peer_stage.specs.declared.outcome.JoinCounts.{JoinCounts}
use Rattle.peer_stage.specs.declared.outcome.Done.{Done}
use Rattle.peer_stage.specs.declared.outcome.Done.TheVariants as done
use Rattle.peer_stage.specs.declared.outcome.Stop.{Stop}
use Rattle.peer_stage.specs.declared.outcome.Stop.TheVariants as stop

-- the image of the live rows among the authorised ones
abbrev pub joined : List ℕ → List RawValue → List ℕ
joined namespace rows = image namespace (live (authorised_rows namespace rows))

-- ---- over bytes

-- the bytes are the frames of rows, whose join is this image, with these numbers
pub record IsJoinOf (namespace bytes written : List ℕ) (counts : JoinCounts) : Type 0 where
  pub rows : List RawValue
  pub frames : AreFrames bytes rows
  pub fits_log : FitsLog namespace rows
  pub counted : AreCounts namespace rows counts
  pub is_image : written ≡ joined namespace rows

-- whatever comes behind these bytes, they are the frames of no rows
abbrev pub BeginNoFrames : List ℕ → Type 0
BeginNoFrames bytes = (more : List ℕ) (rows : List RawValue) → AreFrames (bytes ++ more) rows → ⊥

-- Nothing is wrong in these bytes: they are the frames of these rows, and behind them stands nothing, or a frame that is
-- not whole.
pub record AreRightSoFar (bytes : List ℕ) (rows : List RawValue) : Type 0 where
  pub left : List ℕ
  pub frames : AreAllFrames bytes rows left
  pub unfinished : IsUnfinished left

-- ---- over the bytes taken of the input

-- the input was read whole, and its join is this image, with these numbers
pub record IsJoinRead (namespace : List ℕ) (i i' : SourceFacts) (written : List ℕ) (counts : JoinCounts) : Type 0 where
  pub bytes : List ℕ
  pub read : IsReadWhole INPUT_LIMIT i i' bytes
  pub join : IsJoinOf namespace bytes written counts

-- The bytes taken pass the limit. Below it nothing is wrong, and each row that would be stored finds room behind the rows had
-- before: else that is told before.
pub record IsLongStream (namespace : List ℕ) (had : List RawValue) (i i' : SourceFacts) : Type 0 where
  pub bytes : List ℕ
  pub too_far : IsReadTooFar INPUT_LIMIT i i' bytes
  pub rows : List RawValue
  pub not_wrong : AreRightSoFar (take INPUT_LIMIT bytes) rows
  pub fits_log : FitsLog namespace (had ++ rows)

-- The bytes taken are within the limit, and stop at this place to be frames of rows.
pub record IsWrongStream (i i' : SourceFacts) (at : ℕ) : Type 0 where
  pub bytes : List ℕ
  pub taken : Consumes i.left i'.left bytes
  pub within : length bytes ≤ INPUT_LIMIT
  pub wrong : FramesStopAt bytes at
  -- the input ends there, or is wrong whatever comes behind
  pub cause : IsReadWhole INPUT_LIMIT i i' bytes ⊎ BeginNoFrames bytes
  -- a frame that is not whole is told where the input ends, and not before
  pub not_early : (rows : List RawValue) → AreRightSoFar bytes rows → IsReadWhole INPUT_LIMIT i i' bytes

-- the input is too long, which is told at the limit, or goes wrong at this place
abbrev pub IsBadStream : List ℕ → List RawValue → SourceFacts → SourceFacts → ℕ → Type 0
IsBadStream namespace had i i' at = (IsLongStream namespace had i i' × (at ≡ INPUT_LIMIT)) ⊎ IsWrongStream i i' at

-- Of the whole rows among the bytes taken one too many would be stored behind the rows had before. They are within the limit,
-- the end was not met, and nothing in them is wrong: else that is told before.
pub record IsFullStream (namespace : List ℕ) (had : List RawValue) (i i' : SourceFacts) : Type 0 where
  pub bytes : List ℕ
  pub taken : Consumes i.left i'.left bytes
  pub within : length bytes ≤ INPUT_LIMIT
  pub not_ended : i'.ends ≡ i.ends
  pub rows : List RawValue
  pub not_wrong : AreRightSoFar bytes rows
  pub passes : PassesLog namespace (had ++ rows)

-- why the reading of an input into a log stops, where these rows were had before
abbrev pub StopsInput : List ℕ → List RawValue → SourceFacts → SourceFacts → Stop → Type 0
StopsInput namespace had i i' stop.ReadFault = (bytes : List ℕ) × IsReadToFault INPUT_LIMIT i i' bytes
StopsInput namespace had i i' (stop.BadInput origin at) = IsBadStream namespace had i i' at × IsInput origin
StopsInput namespace had i i' stop.LogFull = IsFullStream namespace had i i'
StopsInput namespace had i i' stop.NoMemory = IsReadSomewhat i i'
StopsInput namespace had i i' e = ⊥

-- how the reading and joining of an input ends, with the image and the numbers
abbrev pub JoinsInput : List ℕ → SourceFacts → SourceFacts → Result (List ℕ × JoinCounts) Stop → Type 0
JoinsInput namespace i i' (Ok x) = IsJoinRead namespace i i' x.0 x.1
JoinsInput namespace i i' (Err e) = StopsInput namespace [] i i' e

-- ---- the command

-- It reads row frames from the input, authorises and stores each in order, and writes the image.
abbrev pub Joins : List ℕ → Step Done
Joins namespace =
    Then (OnInput (JoinsInput namespace)) (λ x.
    OnOutput (Writes x.0 (done.Joined x.1)))
