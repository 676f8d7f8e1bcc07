-- Rows that wait, and what the log is when they are judged.
use Rattle.std.proofs.Common.{◌≡◌, ℕ, ◌≤◌, List, [], ◌++◌, length, sym, ap, subst, ◌∙◌, append_assoc, append-nil, arith}
use Rattle.std.specs.Prelude.{Result, Ok, Err, OnOk}
use Rattle.willow_entry.specs.Row.{RowValue, is_covering, new}
use Rattle.cap_codec.specs.Rows.{RawValue}
use Rattle.ns_state.specs.declared.live_log.TheConstants.{LOG_LIMIT}
use Rattle.peer_stage.specs.declared.outcome.Stop.{Stop}
use Rattle.peer_stage.specs.declared.outcome.Stop.TheVariants as stop
use Rattle.peer_rows.specs.Logged.{authorised_rows, IsLogOf, FitsLog}
use Rattle.peer_rows.specs.Reading.{IsLonger}
use Rattle.peer_rows.specs.Stored.{HasTakenIn, HasJudged, JudgesAll, MayWait, TakesRows}
use Rattle.peer_rows.specs.declared.log.Log.{Log}
use Rattle.peer_rows.specs.declared.intake.Intake.{Intake}
use Rattle.peer_rows.proofs.AuthorisedRows.{authorised_parts, authorised_few}
use Rattle.peer_rows.proofs.NewRows.{new-longer, new_after-more}
use Rattle.peer_rows.proofs.Offered.{no_counts, IsLogOf-start}

-- nothing is taken in yet
pub none_taken_in : (namespace : List ℕ) (intake : Intake) → intake.log.kept ≡ record { namespace = namespace; log = [] } → intake.log.counts ≡ no_counts → intake.waiting.items ≡ [] → HasTakenIn namespace [] intake
none_taken_in namespace intake empty none nobody = record {
  judged = [];
  parts = sym nobody;
  is_log = IsLogOf-start namespace intake.log empty none;
  fits = omega (arith, ap (λ counts. counts.stored) none);
}

module _ (namespace : List ℕ) (rows : List RawValue) (intake : Intake) (h : HasTakenIn namespace rows intake) where
  -- more rows wait behind those that do
  pub waits_on : (more : List RawValue) (intake' : Intake) → intake'.log ≡ intake.log → intake'.waiting.items ≡ intake.waiting.items ++ more → HasTakenIn namespace (rows ++ more) intake'
  waits_on more intake' same waits = record {
    judged = h.judged;
    parts = ap (λ (l : List RawValue). l ++ more) h.parts ∙ append_assoc h.judged intake.waiting.items more ∙ ap (λ (l : List RawValue). h.judged ++ l) (sym waits);
    is_log = subst (λ (log : Log). IsLogOf namespace h.judged log.kept log.counts) (sym same) h.is_log;
    fits = subst (λ (log : Log). log.counts.stored ≤ LOG_LIMIT) (sym same) h.fits;
  }

  -- of rows that wait none is stored before it is judged, so with room for all of them none meets a full log
  pub waiting_fit : MayWait intake → FitsLog namespace rows
  waiting_fit may =
      let behind = authorised_rows namespace intake.waiting.items in
      rw (h.parts, authorised_parts namespace h.judged intake.waiting.items)
      (omega (arith, may.room, h.is_log.counted.stored, new_after-more is_covering [] (authorised_rows namespace h.judged) behind, authorised_few namespace intake.waiting.items))

-- of rows that were all judged none waits
pub none_waits : (namespace : List ℕ) (rows : List RawValue) (intake : Intake) → HasJudged namespace rows intake → HasTakenIn namespace rows intake
none_waits namespace rows intake h = record {
  judged = rows;
  parts = sym (append-nil rows) ∙ ap (λ (l : List RawValue). rows ++ l) (sym h.none_wait);
  is_log = h.is_log;
  fits = h.fits;
}

pub judged_may_wait : (namespace : List ℕ) (rows : List RawValue) (intake : Intake) → HasJudged namespace rows intake → MayWait intake
judged_may_wait namespace rows intake h = record {
  few = omega (arith, ap length h.none_wait);
  room = omega (arith, h.fits, ap length h.none_wait);
}

-- so what is judged was taken in
pub judged_takes : (namespace : List ℕ) (rows : List RawValue) (before : Log) (intake : Intake) (result : Result (Unit {0}) Stop) → JudgesAll namespace rows before intake result → TakesRows namespace rows before intake result
judged_takes namespace rows before intake (Ok tt) judged = (none_waits namespace rows intake judged, judged_may_wait namespace rows intake judged)
judged_takes namespace rows before intake (Err stop.LogFull) judged = judged
judged_takes namespace rows before intake (Err stop.NoMemory) judged = judged
judged_takes namespace rows before intake (Err e) judged = absurd judged

-- ---- the log with more behind it

-- rows that were judged stand behind those that were judged before
pub judged_longer : (namespace : List ℕ) (rows : List RawValue) (intake intake' : Intake) → HasTakenIn namespace rows intake → HasJudged namespace rows intake' → IsLonger intake.log intake'.log
judged_longer namespace rows intake intake' taken judged =
    let more = new-longer (authorised_rows namespace taken.judged) (authorised_rows namespace intake.waiting.items) in (
      more.0,
      judged.is_log.taken
          ∙ ap (λ (l : List RawValue). new (authorised_rows namespace l)) taken.parts
          ∙ ap new (authorised_parts namespace taken.judged intake.waiting.items)
          ∙ more.1
          ∙ ap (λ (l : List RowValue). l ++ more.0) (sym taken.is_log.taken),
    )

-- so it is where they are judged behind this log
pub judging_longer : (namespace : List ℕ) (rows : List RawValue) (old : Log) (intake intake' : Intake) (result : Result (Unit {0}) Stop) → intake.log ≡ old → HasTakenIn namespace rows intake → JudgesAll namespace rows intake.log intake' result
    → OnOk result (IsLonger old intake'.log)
judging_longer namespace rows old intake intake' (Ok tt) same taken judged = subst (λ (log : Log). IsLonger log intake'.log) same (judged_longer namespace rows intake intake' taken judged)
judging_longer namespace rows old intake intake' (Err e) same taken judged = tt
