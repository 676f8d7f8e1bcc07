-- How a join goes on: the rows that came, those that the log is of, and those that are held.
use Rattle.std.specs.Prelude.{ℕ, Bool, true, false, List, [], Result, Ok, Err}
use Rattle.willow_outside.specs.Facts.{SourceFacts}
use Rattle.cap_codec.specs.Rows.{RawValue}
use Rattle.peer_stage.specs.declared.outcome.Stop.{Stop}
use Rattle.peer_rows.specs.Coming.{HaveCome, AreAll}
use Rattle.peer_rows.specs.Join.{StopsInput}
use Rattle.peer_rows.specs.Keeping.{HoldsJudged}
use Rattle.peer_rows.specs.Logged.{FitsLog}
use Rattle.peer_rows.specs.Reading.{IsLogRead}
use Rattle.peer_rows.specs.declared.keeping.Keeping.{Keeping}
use Rattle.peer_rows.specs.declared.reading.Reading.{Reading}

-- rows came, and are kept or held
pub record IsUnderWay (namespace : List ℕ) (old now : SourceFacts) (reading : Reading) (keeping : Keeping) : Type 0 where
  pub rows : List RawValue
  pub come : HaveCome old now reading rows
  pub holds : HoldsJudged namespace rows keeping

-- all rows came, and are kept or held, and the log has room for them
pub record HoldsLast (namespace : List ℕ) (old now : SourceFacts) (keeping : Keeping) : Type 0 where
  pub rows : List RawValue
  pub all : AreAll old now rows
  pub holds : HoldsJudged namespace rows keeping
  pub fits_log : FitsLog namespace rows

-- what came of one more step: the input goes on, or ended, or the join stops there
abbrev pub JoinsOn : List ℕ → SourceFacts → SourceFacts → Reading → Keeping → Result Bool Stop → Type 0
JoinsOn namespace old now reading keeping (Ok true) = IsUnderWay namespace old now reading keeping
JoinsOn namespace old now reading keeping (Ok false) = HoldsLast namespace old now keeping
JoinsOn namespace old now reading keeping (Err e) = StopsInput namespace [] old now e

-- how the taking in of an input ends
abbrev pub TakesInput : List ℕ → SourceFacts → SourceFacts → Keeping → Result (Unit {0}) Stop → Type 0
TakesInput namespace old now keeping (Ok u) = IsLogRead namespace [] old now keeping.log
TakesInput namespace old now keeping (Err e) = StopsInput namespace [] old now e
