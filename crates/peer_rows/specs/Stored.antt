-- The log of the rows of a stream that is read in pieces, and the rows that wait to be judged for it.
use Rattle.std.specs.Prelude.{◌≡◌, ◌⊎◌, ℕ, ◌+◌, ◌<◌, ◌≤◌, List, [], ◌∷◌, ◌++◌, length, Result, Ok, Err}
use Rattle.spelling.specs.declared.ending.End.{End}
use Rattle.spelling.specs.declared.ending.End.TheVariants as ends
use Rattle.cap_codec.specs.Rows.{RawValue}
use Rattle.peer_stage.specs.declared.outcome.Stop.{Stop}
use Rattle.peer_stage.specs.declared.outcome.Stop.TheVariants as stop
use Rattle.peer_rows.specs.Logged.{IsLogOf, FitsLog, PassesLog}
use Rattle.peer_rows.specs.declared.log.Log.{Log}
use Rattle.peer_rows.specs.declared.intake.Intake.{Intake}
use Rattle.peer_rows.specs.declared.intake.TheConstants.{TOGETHER}
use Rattle.ns_state.specs.declared.live_log.LogFull.{LogFull}
use Rattle.ns_state.specs.declared.live_log.TheConstants.{LOG_LIMIT}

-- behind these rows comes one, and with it they are not too many
abbrev pub HasRoomNext : List ℕ → List RawValue → List RawValue → Type 0
HasRoomNext namespace seen [] = ⊥
HasRoomNext namespace seen (row ∷ rows) = PassesLog namespace (seen ++ row ∷ []) → ⊥

-- Memory was wanting at one of the rows: the log is that of the rows in front of it, and had room for it.
pub record WantsAtRow (namespace : List ℕ) (rows : List RawValue) (log : Log) : Type 0 where
  pub front : List RawValue
  pub left : List RawValue
  pub parts : rows ≡ front ++ left
  pub is_log : IsLogOf namespace front log.kept log.counts
  pub room : HasRoomNext namespace front left

-- memory was wanting before any row more was taken to the log there was before, or at a row for which there was room
abbrev pub LacksMemory : List ℕ → List RawValue → Log → Log → Type 0
LacksMemory namespace rows before log = (log ≡ before) ⊎ WantsAtRow namespace rows log

-- how the taking of rows that were judged ends, over the rows seen before them: the log is that of all of them, or one of
-- them is one too many, or memory was wanting at one of them
abbrev pub TakesAll : List ℕ → List RawValue → List RawValue → Log → Result (Unit {0}) (End LogFull) → Type 0
TakesAll namespace seen rows log (Ok u) = IsLogOf namespace (seen ++ rows) log.kept log.counts
TakesAll namespace seen rows log (Err (ends.Refused full)) = PassesLog namespace (seen ++ rows)
TakesAll namespace seen rows log (Err ends.NoMemory) = WantsAtRow namespace (seen ++ rows) log

-- how the offers of rows end, over the rows seen before them and their log: the log is that of all of them, or one of them
-- is one too many, or memory was wanting
abbrev pub OffersAll : List ℕ → List RawValue → List RawValue → Log → Log → Result (Unit {0}) (End LogFull) → Type 0
OffersAll namespace seen rows before log (Ok u) = IsLogOf namespace (seen ++ rows) log.kept log.counts
OffersAll namespace seen rows before log (Err (ends.Refused full)) = PassesLog namespace (seen ++ rows)
OffersAll namespace seen rows before log (Err ends.NoMemory) = LacksMemory namespace (seen ++ rows) before log

-- ---- rows that wait

-- these rows were taken in, in order: the log is that of the first of them, each that would be stored with room, and the
-- others wait
pub record HasTakenIn (namespace : List ℕ) (rows : List RawValue) (intake : Intake) : Type 0 where
  pub judged : List RawValue
  pub parts : rows ≡ judged ++ intake.waiting.items
  pub is_log : IsLogOf namespace judged intake.log.kept intake.log.counts
  pub fits : intake.log.counts.stored ≤ LOG_LIMIT

-- few rows wait, and the log has room for all of them
pub record MayWait (intake : Intake) : Type 0 where
  pub few : length intake.waiting.items < TOGETHER
  pub room : intake.log.counts.stored + length intake.waiting.items ≤ LOG_LIMIT

-- the log is that of all these rows, each that would be stored with room, and none waits
pub record HasJudged (namespace : List ℕ) (rows : List RawValue) (intake : Intake) : Type 0 where
  pub is_log : IsLogOf namespace rows intake.log.kept intake.log.counts
  pub fits : intake.log.counts.stored ≤ LOG_LIMIT
  pub none_wait : intake.waiting.items ≡ []

-- how the judging of the rows that wait ends, where these are all that were taken in, and this was the log
abbrev pub JudgesAll : List ℕ → List RawValue → Log → Intake → Result (Unit {0}) Stop → Type 0
JudgesAll namespace rows before intake (Ok u) = HasJudged namespace rows intake
JudgesAll namespace rows before intake (Err stop.LogFull) = PassesLog namespace rows
JudgesAll namespace rows before intake (Err stop.NoMemory) = LacksMemory namespace rows before intake.log
JudgesAll namespace rows before intake (Err e) = ⊥

-- how the taking of one more row ends, where these are all with this one, and this was the log
abbrev pub AdmitsRow : List ℕ → List RawValue → Log → Intake → Result (Unit {0}) Stop → Type 0
AdmitsRow namespace rows before intake (Ok u) = HasTakenIn namespace rows intake
AdmitsRow namespace rows before intake (Err stop.LogFull) = PassesLog namespace rows
AdmitsRow namespace rows before intake (Err stop.NoMemory) = LacksMemory namespace rows before intake.log
AdmitsRow namespace rows before intake (Err e) = ⊥

-- how the taking in of the rows of a piece ends, where these are all with them, and this was the log
abbrev pub TakesRows : List ℕ → List RawValue → Log → Intake → Result (Unit {0}) Stop → Type 0
TakesRows namespace rows before intake (Ok u) = HasTakenIn namespace rows intake × MayWait intake
TakesRows namespace rows before intake (Err stop.LogFull) = PassesLog namespace rows
TakesRows namespace rows before intake (Err stop.NoMemory) = LacksMemory namespace rows before intake.log
TakesRows namespace rows before intake (Err e) = ⊥

-- ---- a whole log

-- a log of just these rows, each that would be stored with room
pub record IsWholeLog (namespace : List ℕ) (rows : List RawValue) (log : Log) : Type 0 where
  pub is_log : IsLogOf namespace rows log.kept log.counts
  pub fits_log : FitsLog namespace rows
