-- The rows of several reads of an input, behind those that came before.
use Rattle.std.specs.Prelude.{◌≡◌, ℕ, ◌≤◌, Bool, true, false, List, ◌++◌, length, map, Result, Ok, Err}
use Rattle.std.specs.Global.{Vec}
use Rattle.willow_outside.specs.Facts.{SourceFacts}
use Rattle.cap_codec.specs.Rows.{RawValue}
use Rattle.auth_entry.specs.Authorised.{verdict}
use Rattle.lms_core.specs.Use.{peer_rules}
use Rattle.peer_stage.specs.declared.outcome.Stop.{Stop}
use Rattle.peer_rows.specs.Coming.{HaveCome, AreAll, StopsBehind}
use Rattle.peer_rows.specs.declared.gathering.Gathered.{Gathered}
use Rattle.peer_rows.specs.declared.reading.Reading.{Reading}

-- some rows for which there was room came behind those, and so the reading stops
abbrev pub StopsGathering : SourceFacts → SourceFacts → List RawValue → ℕ → Stop → Type 0
StopsGathering old now rows room e = (more : List RawValue) × (length more ≤ room) × StopsBehind old now (rows ++ more) e

module _ (old now : SourceFacts) (reading : Reading) (rows : List RawValue) (room : ℕ) where
  -- these rows came behind those, and it may be the end: that is met only behind rows for which there was room
  abbrev pub AreGathered : List RawValue → Bool → Type 0
  AreGathered more false = HaveCome old now reading (rows ++ more)
  AreGathered more true = AreAll old now (rows ++ more) × (length more ≤ room)

  -- how the reading of further rows ends
  abbrev pub GathersRows : Result (Vec RawValue × Bool) Stop → Type 0
  GathersRows (Ok x) = AreGathered x.0.items x.1
  GathersRows (Err e) = StopsGathering old now rows room e

  -- how it ends where they are judged in a namespace
  abbrev pub GathersJudged : List ℕ → Result Gathered Stop → Type 0
  GathersJudged namespace (Ok gathered) = (more : List RawValue) × (gathered.judged.items ≡ map (verdict peer_rules namespace) more) × AreGathered more gathered.ended
  GathersJudged namespace (Err e) = StopsGathering old now rows room e
