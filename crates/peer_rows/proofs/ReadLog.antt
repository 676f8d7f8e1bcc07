-- How the reading of an input into a log goes on by a piece, and how it ends.
use Rattle.std.proofs.Common.{◌≡◌, ℕ, ◌+◌, ◌^◌, ◌<◌, Bool, true, false, List, [], ◌++◌, length, sym, ap, subst, append_assoc, append-nil, arith, length-append}
use Rattle.std.specs.Prelude.{Ok, Err}
use Rattle.willow_outside.specs.Facts.{SourceFacts}
use Rattle.cap_codec.specs.Rows.{RawValue}
use Rattle.row_stream.specs.Feeding.{nothing_fed}
use Rattle.peer_stage.specs.declared.outcome.JoinCounts.{JoinCounts}
use Rattle.peer_stage.specs.declared.outcome.Stop.{Stop}
use Rattle.peer_stage.specs.declared.outcome.Stop.TheVariants as stop
use Rattle.peer_stage.specs.declared.stage.TheConstants.{INPUT_LIMIT}
use Rattle.peer_rows.specs.Coming.{AreAll, HaveCome}
use Rattle.peer_rows.specs.Logged.{FitsLog, PassesLog}
use Rattle.peer_rows.specs.Join.{StopsInput}
use Rattle.peer_rows.specs.Reading.{HasRead, IsLogRead, ReadsOn}
use Rattle.peer_rows.specs.Stored.{HasTakenIn, HasJudged, IsWholeLog, JudgesAll, TakesRows}
use Rattle.peer_rows.specs.declared.log.Log.{Log}
use Rattle.peer_rows.specs.declared.intake.Intake.{Intake}
use Rattle.peer_rows.specs.declared.reading.Reading.{Reading}
use Rattle.peer_rows.proofs.Coming.{few_come, full_there, none_come}
use Rattle.peer_rows.proofs.Offered.{no_counts, IsLogOf-start}
use Rattle.peer_rows.proofs.Waiting.{waiting_fit, none_waits, judged_may_wait}

-- the reading begins behind rows of which the log is
pub begins_reading : (namespace : List ℕ) (had : List RawValue) (input : SourceFacts) (reading : Reading) (intake : Intake) → length had < 2 ^ 32 → reading.stream ≡ nothing_fed → 0 < length reading.piece.items → reading.left ≡ INPUT_LIMIT
    → IsWholeLog namespace had intake.log → intake.waiting.items ≡ [] → HasRead namespace had input input reading intake
begins_reading namespace had input reading intake few start room all whole nobody =
    let judged : HasJudged namespace had intake = record { is_log = whole.is_log; fits = omega (arith, whole.fits_log, whole.is_log.counted.stored); none_wait = nobody } in
    record {
      few = few;
      seen = [];
      come = none_come input reading start room all;
      taken_in = none_waits namespace (had ++ []) intake (subst (λ (rows : List RawValue). HasJudged namespace rows intake) (sym (append-nil had)) judged);
      waits = judged_may_wait namespace had intake judged;
    }

-- a log without rows
pub start_whole : (namespace : List ℕ) (log : Log) → log.kept ≡ record { namespace = namespace; log = [] } → log.counts ≡ no_counts → IsWholeLog namespace [] log
start_whole namespace log empty none =
    let is_log = IsLogOf-start namespace log empty none in
    record { is_log = is_log; fits_log = omega (arith, is_log.counted.stored, ap (λ (counts : JoinCounts). counts.stored) none) }

module _ (namespace : List ℕ) (had : List RawValue) (old now : SourceFacts) (reading : Reading) (intake : Intake) (h : HasRead namespace had old now reading intake) where
  pub fits_all : FitsLog namespace (had ++ h.seen)
  fits_all = waiting_fit namespace (had ++ h.seen) intake h.taken_in h.waits

  -- the rows that wait are few enough to be counted
  pub few_taken : length (had ++ h.seen) < 2 ^ 64
  few_taken = omega (arith, h.few, few_come old now reading h.seen h.come, length-append had h.seen)

  -- ---- a piece

  module _ (new : SourceFacts) (reading' : Reading) (rows : List RawValue) (come : HaveCome old new reading' (h.seen ++ rows)) where
    pub few_more : length (had ++ h.seen) + length rows < 2 ^ 64
    few_more = omega (arith, h.few, few_come old new reading' (h.seen ++ rows) come, length-append had h.seen, length-append h.seen rows)

    module _ (intake' : Intake) where
      pub has_read_on : (before : Log) → TakesRows namespace ((had ++ h.seen) ++ rows) before intake' (Ok tt) → HasRead namespace had old new reading' intake'
      has_read_on before took = record {
        few = h.few;
        seen = h.seen ++ rows;
        come = come;
        taken_in = subst (λ (l : List RawValue). HasTakenIn namespace l intake') (append_assoc had h.seen rows) took.0;
        waits = took.1;
      }

      pub taking_stops : (before : Log) (e : Stop) → TakesRows namespace ((had ++ h.seen) ++ rows) before intake' (Err e) → StopsInput namespace had old new e
      taking_stops before stop.LogFull passes = full_there old new reading' (h.seen ++ rows) come namespace had (subst (PassesLog namespace) (append_assoc had h.seen rows) passes)
      taking_stops before stop.NoMemory t = (come.bytes, come.consumed)
      taking_stops before e t = absurd t

  -- ---- the end

  module _ (new : SourceFacts) (all : AreAll old new h.seen) (intake' : Intake) where
    pub log_read : HasJudged namespace (had ++ h.seen) intake' → IsLogRead namespace had old new intake'.log
    log_read judged = record {
      bytes = all.bytes;
      read = all.read;
      rows = h.seen;
      frames = all.frames;
      whole = record { is_log = judged.is_log; fits_log = fits_all };
    }

    -- none of the rows that wait meets a full log
    pub judging_stops : (before : Log) (e : Stop) → JudgesAll namespace (had ++ h.seen) before intake' (Err e) → StopsInput namespace had old new e
    judging_stops before stop.LogFull passes = absurd (omega (arith, passes, fits_all))
    judging_stops before stop.NoMemory t = (all.bytes, all.read.taken)
    judging_stops before e t = absurd t

-- ---- what came of a read

module _ (namespace : List ℕ) (had : List RawValue) (old new : SourceFacts) (reading : Reading) (intake : Intake) where
  pub read_ends : (came : Bool) → came ≡ false → ReadsOn namespace had old new reading intake (Ok came) → IsLogRead namespace had old new intake.log
  read_ends false is reads = reads
  read_ends true is reads = absurd cc

  pub read_goes_on : (came : Bool) → came ≡ true → ReadsOn namespace had old new reading intake (Ok came) → HasRead namespace had old new reading intake
  read_goes_on true is reads = reads
  read_goes_on false is reads = absurd cc
