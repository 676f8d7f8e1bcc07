-- From the writing of the lines to the report and the status.
use Rattle.std.proofs.Common.{◌≡◌, ℕ, List, ◌++◌, [], ◌∷◌, ◌<◌, length, inl, inr, sym, subst, arith, length-append}
use Rattle.std.specs.Prelude.{codes, Result, Ok, Err, Some}
use Rattle.std.specs.Fmt.{decimal}
use Rattle.std.specs.Io.KnownBytes.{Appends}
use Rattle.std.proofs.KnownBytes.{Appends-nil}
use Rattle.std.proofs.lemmas.List.{take-append-le}
use Rattle.willow_outside.specs.Facts.{SinkFacts}
use Rattle.peer_stage.specs.Faults.{CountsStep}
use Rattle.peer_stage.specs.Stages.{IsWritten, IsPartlyWritten, WritesOutput}
use Rattle.peer_stage.specs.declared.outcome.Done.{Done}
use Rattle.peer_stage.specs.declared.outcome.Stop.{Stop}
use Rattle.peer_stage.specs.declared.outcome.Stop.TheVariants as stop
use Rattle.peer_stage.proofs.Pieces.{both_end}
use Rattle.peer_report.specs.Report.{Reports, kept_line, report_of, told_status}

module _ (old new : SinkFacts) (end : Result Done Stop) (status : ℕ) where
  pub reports : (written : Result (Unit {0}) Stop) → WritesOutput old new (report_of end) written → CountsStep old.faults new.faults written → status ≡ told_status end written → Reports old new end status
  reports (Ok u) writes faults is = inl (record { status_is = is; written = writes; unfailed = faults })
  reports (Err stop.WriteFault) writes faults is = inr (inl (record { status_is = is; written = writes.0; fault = writes.1 }))
  reports (Err stop.NoMemory) writes faults is = inr (inr (record { status_is = is; written = writes; unfailed = faults }))
  reports (Err e) writes faults is = absurd writes

-- want of memory before anything is written
pub nothing_told : (old : SinkFacts) (end : Result Done Stop) → 0 < length (report_of end) → WritesOutput old old (report_of end) (Err stop.NoMemory)
nothing_told old end some = record { count = 0; within = some; written = Appends-nil old.held }

-- ---- texts that are written in pieces

-- where a front of it stopped, a front of the whole is written
partly_in_front : (old new : SinkFacts) (first behind : List ℕ) → IsPartlyWritten old new first → IsPartlyWritten old new (first ++ behind)
partly_in_front old new first behind h = record {
  count = h.count;
  within = omega (arith, h.within, length-append first behind);
  written = subst (λ (bytes : List ℕ). Appends old.held new.held bytes) (sym (take-append-le h.count first behind (omega (arith, h.within)))) h.written;
}

front_ends : (old new : SinkFacts) (first behind : List ℕ) (e : Stop) → WritesOutput old new first (Err e) → WritesOutput old new (first ++ behind) (Err e)
front_ends old new first behind stop.WriteFault h = (partly_in_front old new first behind h.0, h.1)
front_ends old new first behind stop.NoMemory h = partly_in_front old new first behind h
front_ends old new first behind e h = absurd h

pub kept_in_front : (old new : SinkFacts) (kept : ℕ) (e : Stop) → WritesOutput old new (codes "kept ") (Err e) → WritesOutput old new (kept_line (Some kept)) (Err e)
kept_in_front old new kept e h = front_ends old new (codes "kept ") (decimal kept ++ 10 ∷ []) e h

-- what is kept is written in pieces, of which this text is the number
pub kept_behind : (old mid new : SinkFacts) (kept : ℕ) (text : List ℕ) (result : Result (Unit {0}) Stop) → text ≡ decimal kept → IsWritten old mid (codes "kept ") → mid.faults ≡ old.faults
    → WritesOutput mid new (text ++ 10 ∷ []) result → WritesOutput old new (kept_line (Some kept)) result
kept_behind old mid new kept text result is written same writes =
    both_end old mid new (codes "kept ") (decimal kept ++ 10 ∷ []) result written same (subst (λ (digits : List ℕ). WritesOutput mid new (digits ++ 10 ∷ []) result) is writes)
