-- How the reading of an input into a log goes on, behind rows that were had before.
use Rattle.std.specs.Prelude.{◌≡◌, ℕ, ◌<◌, ◌^◌, Bool, true, false, List, [], ◌++◌, length, Result, Ok, Err}
use Rattle.willow_outside.specs.Facts.{SourceFacts}
use Rattle.willow_entry.specs.Row.{RowValue}
use Rattle.cap_codec.specs.Rows.{RawValue, AreFrames}
use Rattle.peer_stage.specs.Stages.{IsReadWhole}
use Rattle.peer_stage.specs.declared.stage.TheConstants.{INPUT_LIMIT}
use Rattle.peer_stage.specs.declared.outcome.Stop.{Stop}
use Rattle.peer_rows.specs.Coming.{HaveCome}
use Rattle.peer_rows.specs.Join.{JoinsInput, StopsInput}
use Rattle.peer_rows.specs.Logged.{kept_rows}
use Rattle.peer_rows.specs.Stored.{HasTakenIn, IsWholeLog, MayWait}
use Rattle.peer_rows.specs.declared.log.Log.{Log}
use Rattle.peer_rows.specs.declared.intake.Intake.{Intake}
use Rattle.peer_rows.specs.declared.reading.Reading.{Reading}

-- rows came behind those had before, and were taken in; of those had before no more are than an image tells
pub record HasRead (namespace : List ℕ) (had : List RawValue) (old now : SourceFacts) (reading : Reading) (intake : Intake) : Type 0 where
  pub few : length had < 2 ^ 32
  pub seen : List RawValue
  pub come : HaveCome old now reading seen
  pub taken_in : HasTakenIn namespace (had ++ seen) intake
  pub waits : MayWait intake

-- the input was read whole and is the frames of rows; the log is that of those had before and of them
pub record IsLogRead (namespace : List ℕ) (had : List RawValue) (i i' : SourceFacts) (log : Log) : Type 0 where
  pub bytes : List ℕ
  pub read : IsReadWhole INPUT_LIMIT i i' bytes
  pub rows : List RawValue
  pub frames : AreFrames bytes rows
  pub whole : IsWholeLog namespace (had ++ rows) log

-- what came of one more read: there was a piece, or the input ended, or it stops there
abbrev pub ReadsOn : List ℕ → List RawValue → SourceFacts → SourceFacts → Reading → Intake → Result Bool Stop → Type 0
ReadsOn namespace had old new reading intake (Ok true) = HasRead namespace had old new reading intake
ReadsOn namespace had old new reading intake (Ok false) = IsLogRead namespace had old new intake.log
ReadsOn namespace had old new reading intake (Err e) = StopsInput namespace had old new e

-- the log holds what it held, and these rows behind that
abbrev pub IsLonger : Log → Log → Type 0
IsLonger old new = (rows : List RowValue) × (kept_rows new.kept ≡ kept_rows old.kept ++ rows)

-- how the reading of an input into a log ends
abbrev pub LogsInput : List ℕ → SourceFacts → SourceFacts → Result Log Stop → Type 0
LogsInput namespace i i' (Ok log) = IsLogRead namespace [] i i' log
LogsInput namespace i i' (Err e) = JoinsInput namespace i i' (Err e)
