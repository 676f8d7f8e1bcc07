-- The log and the hub while an input is watched.
use Rattle.std.specs.Prelude.{◌≡◌, ℕ, List, ◌++◌, Result, Ok, Err}
use Rattle.willow_outside.specs.Facts.{SourceFacts}
use Rattle.willow_entry.specs.Row.{RowValue}
use Rattle.cap_codec.specs.Rows.{RawValue}
use Rattle.sub_hub.specs.Hubs.{HubValue, IsPumped}
use Rattle.peer_stage.specs.declared.outcome.Stop.{Stop}
use Rattle.peer_stage.specs.declared.outcome.WatchCounts.{WatchCounts}
use Rattle.peer_rows.specs.Join.{StopsInput}
use Rattle.peer_rows.specs.Logged.{kept_rows}
use Rattle.peer_rows.specs.Reading.{HasRead, IsLogRead}
use Rattle.peer_rows.specs.Stored.{IsWholeLog}
use Rattle.peer_rows.specs.Watch.{AreWatchCounts, HaveHeardSome, new_behind}
use Rattle.peer_rows.specs.declared.log.Log.{Log}
use Rattle.peer_rows.specs.declared.intake.Intake.{Intake}
use Rattle.peer_rows.specs.declared.reading.Reading.{Reading}

-- nothing is read yet behind the rows had before, of which the log is
pub record IsOpen (namespace : List ℕ) (had : List RawValue) (input : SourceFacts) (reading : Reading) (intake : Intake) : Type 0 where
  pub read : HasRead namespace had input input reading intake
  pub whole : IsWholeLog namespace had intake.log

-- Those who watch were told of the rows of the log behind those that an older one holds, and so many left.
pub record HaveHeard (old new : Log) (h h' : HubValue) (left : ℕ) : Type 0 where
  pub rows : List RowValue
  pub longer : kept_rows new.kept ≡ kept_rows old.kept ++ rows
  pub told : IsPumped h h' rows left

-- the input was read whole behind the rows had before, this is the log of all, and the new ones were told
pub record IsHeard (namespace : List ℕ) (had : List RawValue) (i i' : SourceFacts) (h h' : HubValue) (log : Log) (left : ℕ) : Type 0 where
  pub read : IsLogRead namespace had i i' log
  pub told : IsPumped h h' (new_behind namespace had read.rows) left

-- how the hearing of an input ends, from its first read on: where it stops some were told
abbrev pub HearsInput : List ℕ → List RawValue → SourceFacts → SourceFacts → HubValue → HubValue → Log → Result ℕ Stop → Type 0
HearsInput namespace had i i' h h' log (Ok left) = IsHeard namespace had i i' h h' log left
HearsInput namespace had i i' h h' log (Err e) = StopsInput namespace had i i' e × HaveHeardSome namespace had i i' h h'

-- the same with the numbers
pub record IsCounted (namespace : List ℕ) (had : List RawValue) (i i' : SourceFacts) (h h' : HubValue) (log : Log) (counts : WatchCounts) : Type 0 where
  pub heard : IsHeard namespace had i i' h h' log counts.left
  pub counted : AreWatchCounts namespace had heard.read.rows counts

-- how the watching of an input ends, with the log and the numbers
abbrev pub WatchesRows : List ℕ → List RawValue → SourceFacts → SourceFacts → HubValue → HubValue → Result (Log × WatchCounts) Stop → Type 0
WatchesRows namespace had i i' h h' (Ok x) = IsCounted namespace had i i' h h' x.0 x.1
WatchesRows namespace had i i' h h' (Err e) = StopsInput namespace had i i' e × HaveHeardSome namespace had i i' h h'
