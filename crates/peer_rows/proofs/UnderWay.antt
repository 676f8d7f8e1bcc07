-- How a join goes on by a step, and how it ends.
use Rattle.std.proofs.Common.{◌≡◌, ℕ, ◌≤◌, Bool, true, false, not, List, [], ◌++◌, length, refl, ap, subst, ◌∙◌, append-nil, arith}
use Rattle.std.specs.Prelude.{Result, Ok, Err}
use Rattle.willow_outside.specs.Facts.{SourceFacts}
use Rattle.cap_codec.specs.Rows.{RawValue}
use Rattle.peer_stage.specs.Faults.{CountsStep, CountsStop}
use Rattle.peer_stage.specs.Stages.{IsReadSomewhat}
use Rattle.peer_stage.specs.declared.outcome.Stop.{Stop}
use Rattle.peer_stage.specs.declared.outcome.Stop.TheVariants as stop
use Rattle.peer_rows.specs.Coming.{HaveCome}
use Rattle.peer_rows.specs.Gathering.{AreGathered, GathersJudged, StopsGathering}
use Rattle.peer_rows.specs.Join.{StopsInput}
use Rattle.peer_rows.specs.Joining.{HoldsLast, IsUnderWay, JoinsOn, TakesInput}
use Rattle.peer_rows.specs.Keeping.{HasKept, HoldsJudged, KeepsAll}
use Rattle.peer_rows.specs.Logged.{FitsLog}
use Rattle.peer_rows.specs.declared.gathering.Gathered.{Gathered}
use Rattle.peer_rows.specs.declared.keeping.Keeping.{Keeping}
use Rattle.peer_rows.specs.declared.reading.Reading.{Reading}
use Rattle.peer_rows.proofs.Coming.{come_somewhat, full_there}
use Rattle.peer_rows.proofs.Held.{holds_more, kept_whole}

-- so many rows may come behind these, and none of all meets a full log
abbrev pub HasRoomBehind : List ℕ → List RawValue → ℕ → Type 0
HasRoomBehind namespace rows room = (more : List RawValue) → length more ≤ room → FitsLog namespace (rows ++ more)

-- so none of these does
pub fit_alone : (namespace : List ℕ) (rows : List RawValue) (room : ℕ) → HasRoomBehind namespace rows room → FitsLog namespace rows
fit_alone namespace rows room fits = subst (FitsLog namespace) (append-nil rows) (fits [] (omega arith))

module _ (namespace : List ℕ) (old now new : SourceFacts) (reading : Reading) (rows : List RawValue) (come : HaveCome old now reading rows) where
  -- what is held meets a full log, or no memory, before more is read
  pub settling_stops : (keeping' : Keeping) (e : Stop) → KeepsAll namespace rows keeping' (Err e) → StopsInput namespace [] old now e
  settling_stops keeping' stop.LogFull passes = full_there old now reading rows come namespace [] passes
  settling_stops keeping' stop.NoMemory t = (come.bytes, come.consumed)
  settling_stops keeping' e t = absurd t

  -- or no memory while more is read
  pub settling_stops_beside : (keeping' : Keeping) (e : Stop) → FitsLog namespace rows → IsReadSomewhat now new → KeepsAll namespace rows keeping' (Err e) → StopsInput namespace [] old new e
  settling_stops_beside keeping' stop.LogFull fits more passes = absurd (omega (arith, fits, passes))
  settling_stops_beside keeping' stop.NoMemory fits more t = come_somewhat old now reading rows come new more
  settling_stops_beside keeping' e fits more t = absurd t

module _ (namespace : List ℕ) (old new : SourceFacts) (reading' : Reading) (rows : List RawValue) (room : ℕ) (fits : HasRoomBehind namespace rows room) where
  pub gathering_stops : (e : Stop) → StopsGathering old new rows room e → StopsInput namespace [] old new e
  gathering_stops e t = t.2 namespace [] (fits t.0 t.1)

  -- the rows that came are held
  pub joins_so : (kept keeping' : Keeping) (gathered : Gathered) → HasKept namespace rows kept → keeping'.log ≡ kept.log → keeping'.judged.items ≡ gathered.judged.items → GathersJudged old new reading' rows room namespace (Ok gathered)
      → JoinsOn namespace old new reading' keeping' (Ok (not gathered.ended))
  joins_so kept keeping' gathered has same held g = by_end gathered.ended g.2 where
    holds : HoldsJudged namespace (rows ++ g.0) keeping'
    holds = holds_more namespace rows kept has g.0 keeping' same (held ∙ g.1)

    by_end : (ended : Bool) → AreGathered old new reading' rows room g.0 ended → JoinsOn namespace old new reading' keeping' (Ok (not ended))
    by_end false come = record { rows = rows ++ g.0; come = come; holds = holds }
    by_end true last = record { rows = rows ++ g.0; all = last.0; holds = holds; fits_log = fits g.0 last.1 }

-- ---- faults

-- where no fault of the input stops it, none came
none_came : (namespace : List ℕ) (old new : SourceFacts) (before now : ℕ) (e : Stop) → (e ≡ stop.ReadFault → ⊥) → StopsInput namespace [] old new e → CountsStop before now e → now ≡ before
none_came namespace old new before now stop.ReadFault none stops counts = absurd (none refl)
none_came namespace old new before now stop.WriteFault none stops counts = absurd stops
none_came namespace old new before now e none stops counts = counts

not_both : (failed : Bool) → failed ≡ true → failed ≡ false → ⊥
not_both failed so none = cc

pub none_gathered : (namespace : List ℕ) (old new : SourceFacts) (reading' : Reading) (rows : List RawValue) (room before now : ℕ) → HasRoomBehind namespace rows room → (came : Result Gathered Stop) (failed : Bool)
    → (came ≡ Err stop.ReadFault → failed ≡ true) → failed ≡ false → GathersJudged old new reading' rows room namespace came → CountsStep before now came → now ≡ before
none_gathered namespace old new reading' rows room before now fits (Ok gathered) failed tells none g counts = counts
none_gathered namespace old new reading' rows room before now fits (Err e) failed tells none g counts =
    none_came namespace old new before now e (λ is. not_both failed (tells (ap (λ (x : Stop). Err x) is)) none) (gathering_stops namespace old new reading' rows room fits e g) counts

-- no fault is told of what is held
pub settling_counts : (namespace : List ℕ) (rows : List RawValue) (keeping' : Keeping) (before now : ℕ) (result : Result (Unit {0}) Stop) → KeepsAll namespace rows keeping' result → now ≡ before → CountsStep before now result
settling_counts namespace rows keeping' before now (Ok tt) keeps same = same
settling_counts namespace rows keeping' before now (Err stop.LogFull) keeps same = same
settling_counts namespace rows keeping' before now (Err stop.NoMemory) keeps same = same
settling_counts namespace rows keeping' before now (Err e) keeps same = absurd keeps

-- ---- the end

module _ (namespace : List ℕ) (old now : SourceFacts) (keeping : Keeping) (last : HoldsLast namespace old now keeping) (keeping' : Keeping) where
  pub last_ends : (result : Result (Unit {0}) Stop) → KeepsAll namespace last.rows keeping' result → TakesInput namespace old now keeping' result
  last_ends (Ok tt) has = record { bytes = last.all.bytes; read = last.all.read; rows = last.rows; frames = last.all.frames; whole = kept_whole namespace last.rows keeping' has }
  last_ends (Err stop.LogFull) passes = absurd (omega (arith, last.fits_log, passes))
  last_ends (Err stop.NoMemory) t = (last.all.bytes, last.all.read.taken)
  last_ends (Err e) t = absurd t

-- ---- what came of a step

module _ (namespace : List ℕ) (old new : SourceFacts) (reading : Reading) (keeping : Keeping) where
  pub join_ends : (goes_on : Bool) → goes_on ≡ false → JoinsOn namespace old new reading keeping (Ok goes_on) → HoldsLast namespace old new keeping
  join_ends false is joins = joins
  join_ends true is joins = absurd cc

  pub join_goes_on : (goes_on : Bool) → goes_on ≡ true → JoinsOn namespace old new reading keeping (Ok goes_on) → IsUnderWay namespace old new reading keeping
  join_goes_on true is joins = joins
  join_goes_on false is joins = absurd cc
