-- The log of the rows of an image, which were taken in one after the other.
use Rattle.std.proofs.Common.{◌≡◌, ℕ, List, [], ◌∷◌, ◌++◌, sym, ap, subst, ◌∙◌, append_assoc, append-nil, arith}
use Rattle.std.specs.Prelude.{Result, Ok, Err}
use Rattle.cap_codec.specs.Rows.{RawValue}
use Rattle.peer_stage.specs.declared.outcome.Stop.{Stop}
use Rattle.peer_stage.specs.declared.outcome.Stop.TheVariants as stop
use Rattle.peer_rows.specs.Logged.{PassesLog}
use Rattle.peer_rows.specs.Opened.{LogsRows}
use Rattle.peer_rows.specs.Stored.{AdmitsRow, HasJudged, HasTakenIn, IsWholeLog, JudgesAll}
use Rattle.peer_rows.specs.declared.log.Log.{Log}
use Rattle.peer_rows.specs.declared.intake.Intake.{Intake}
use Rattle.peer_rows.proofs.Offered.{PassesLog-longer}
use Rattle.peer_rows.proofs.Waiting.{none_waits}

-- judging the rows that wait is a way to take in the last of them
pub judged_admits : (namespace : List ℕ) (rows : List RawValue) (before : Log) (intake : Intake) (result : Result (Unit {0}) Stop) → JudgesAll namespace rows before intake result → AdmitsRow namespace rows before intake result
judged_admits namespace rows before intake (Ok tt) judged = none_waits namespace rows intake judged
judged_admits namespace rows before intake (Err stop.LogFull) judged = judged
judged_admits namespace rows before intake (Err stop.NoMemory) judged = judged
judged_admits namespace rows before intake (Err e) judged = absurd judged

-- of all these rows the first were taken in, and these are left, for a checker that judges in the namespace
pub record HasTakenSome (namespace : List ℕ) (all taken left : List RawValue) (judged_in : List ℕ) (intake : Intake) : Type 0 where
  pub whole : all ≡ taken ++ left
  pub taken_in : HasTakenIn namespace taken intake
  pub checks : judged_in ≡ namespace

-- where none is left, all were taken in
pub all_taken : (namespace : List ℕ) (all taken left : List RawValue) (judged_in : List ℕ) (intake : Intake) → HasTakenSome namespace all taken left judged_in intake → left ≡ [] → HasTakenIn namespace all intake
all_taken namespace all taken left judged_in intake h none =
    subst (λ (rows : List RawValue). HasTakenIn namespace rows intake) (sym (h.whole ∙ ap (λ (l : List RawValue). taken ++ l) none ∙ append-nil taken)) h.taken_in

-- a log that is full before all rows came is full behind them
pub admitting_stops : (namespace : List ℕ) (all taken left : List RawValue) (row : RawValue) (before : Log) (intake : Intake) (e : Stop) → all ≡ taken ++ row ∷ left → AdmitsRow namespace (taken ++ row ∷ []) before intake (Err e) → LogsRows namespace all (Err e)
admitting_stops namespace all taken left row before intake stop.LogFull is past =
    subst (PassesLog namespace) (append_assoc taken (row ∷ []) left ∙ sym is) (PassesLog-longer namespace (taken ++ row ∷ []) left past)
admitting_stops namespace all taken left row before intake stop.NoMemory is past = tt
admitting_stops namespace all taken left row before intake e is past = absurd past

-- how the judging of the last rows ends
pub judging_ends : (namespace : List ℕ) (rows : List RawValue) (before : Log) (intake : Intake) (e : Stop) → JudgesAll namespace rows before intake (Err e) → LogsRows namespace rows (Err e)
judging_ends namespace rows before intake stop.LogFull past = past
judging_ends namespace rows before intake stop.NoMemory past = tt
judging_ends namespace rows before intake e past = absurd past

-- of rows that were all judged the log is whole
pub judged_whole : (namespace : List ℕ) (rows : List RawValue) (intake : Intake) → HasJudged namespace rows intake → IsWholeLog namespace rows intake.log
judged_whole namespace rows intake judged = record { is_log = judged.is_log; fits_log = omega (arith, judged.fits, judged.is_log.counted.stored) }
