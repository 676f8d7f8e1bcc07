-- What those who watch are told as an input is read, and the numbers behind those of an image.
use Rattle.std.proofs.Common.{◌≡◌, ℕ, ◌+◌, ◌-◌, ◌^◌, ◌<◌, ◌≤◌, List, [], ◌++◌, length, map, take, drop, refl, sym, ap, ◌∙◌, subst, append_assoc, arith, length-append}
use Rattle.std.proofs.lemmas.List.{append-nil, drop-map, length-drop, length-map}
use Rattle.std.proofs.lemmas.Simd.{map-map}
use Rattle.std.proofs.Math.Seq.{drop-append_seam, take-append_seam}
use Rattle.std.proofs.KnownBytes.{Consumes-nil, Consumes-trans}
use Rattle.std.specs.declared.sync.Arc.{Arc}
use Rattle.std.specs.declared.alloc.Global.{Global}
use Rattle.willow_outside.specs.Facts.{SourceFacts}
use Rattle.willow_entry.specs.declared.row.LogRow.{LogRow}
use Rattle.willow_entry.specs.Row.{RowValue, is_covering, new}
use Rattle.cap_codec.specs.Rows.{RawValue}
use Rattle.auth_entry.specs.Authorised.{AuthorisedValue}
use Rattle.auth_entry.specs.Rows.{entry_row}
use Rattle.ns_state.specs.Log.{StateValue, plain_row}
use Rattle.sub_hub.specs.Heard.{slice_rows}
use Rattle.sub_hub.specs.Hubs.{HubValue, IsPumped, count_left}
use Rattle.sub_hub.proofs.Pumps.{pumped_twice, pumped_nothing}
use Rattle.peer_stage.specs.Stages.{IsReadSomewhat}
use Rattle.peer_stage.specs.declared.outcome.JoinCounts.{JoinCounts}
use Rattle.peer_rows.specs.Logged.{AreCounts, authorised_rows, kept_rows}
use Rattle.peer_rows.specs.Reading.{HasRead, IsLogRead, IsLonger}
use Rattle.peer_rows.specs.Stored.{IsWholeLog}
use Rattle.peer_rows.specs.Watch.{HaveHeardSome, log_length, new_behind}
use Rattle.peer_rows.specs.Watching.{HaveHeard, IsHeard}
use Rattle.peer_rows.specs.declared.log.Log.{Log}
use Rattle.peer_rows.specs.declared.intake.Intake.{Intake}
use Rattle.peer_rows.specs.declared.reading.Reading.{Reading}
use Rattle.peer_rows.proofs.AuthorisedRows.{authorised_few, authorised_parts}
use Rattle.peer_rows.proofs.NewRows.{new-longer, new_after-longer, new_after-more}
use Rattle.peer_rows.proofs.Pieces.{right_fed}
use Rattle.peer_rows.proofs.RawStreams.{right_so_far}

-- the rows of the shared log from a position on are those of the log
pub slice_is : (slice : List (LogRow (Arc AuthorisedValue Global))) (log : StateValue AuthorisedValue) (at : ℕ) → map plain_row slice ≡ drop at log.log
    → slice_rows (λ (shared : Arc AuthorisedValue Global). entry_row shared.value) slice ≡ drop at (kept_rows log)
slice_is slice log at same =
    let row = λ (l : LogRow AuthorisedValue). entry_row l.row in
    sym (map-map row plain_row slice) ∙ ap (map row) same ∙ sym (drop-map row at log.log)

-- so the hub is told of those
pub told_slice : (h h' : HubValue) (slice : List (LogRow (Arc AuthorisedValue Global))) (log : StateValue AuthorisedValue) (at front left : ℕ) → at ≡ front → map plain_row slice ≡ drop at log.log
    → IsPumped h h' (slice_rows (λ (shared : Arc AuthorisedValue Global). entry_row shared.value) slice) left → IsPumped h h' (drop front (kept_rows log)) left
told_slice h h' slice log at front left same is told =
    subst (λ (k : ℕ). IsPumped h h' (drop k (kept_rows log)) left) same (subst (λ (rows : List RowValue). IsPumped h h' rows left) (slice_is slice log at is) told)

-- ---- one more read

-- a log has as many rows as a store sees in it
pub kept_many : (log : Log) (n : ℕ) → n ≡ length log.kept.log → n ≡ length (kept_rows log.kept)
kept_many log n is = is ∙ sym (length-map log.kept.log (λ (l : LogRow AuthorisedValue). entry_row l.row))

module _ (old now : Log) (h h' : HubValue) (left : ℕ) (front : h.front ≡ length (kept_rows old.kept)) (heard : HaveHeard old now h h' left) where
  -- they were told up to the end of the log
  pub front_is : h'.front ≡ length (kept_rows now.kept)
  front_is = heard.told.front ∙ ap (λ (k : ℕ). k + length heard.rows) front ∙ sym (length-append (kept_rows old.kept) heard.rows) ∙ ap length (sym heard.longer)

  pub front_within : (next : Log) → IsLonger now next → h'.front ≤ length next.kept.log
  front_within next longer =
      omega (arith, front_is, ap length longer.1, length-append (kept_rows now.kept) longer.0, length-map next.kept.log (λ (l : LogRow AuthorisedValue). entry_row l.row))

  -- what came into it since is told next
  pub heard_on : (next : Log) (h'' : HubValue) (more : ℕ) → IsLonger now next → IsPumped h' h'' (drop h'.front (kept_rows next.kept)) more → HaveHeard old next h h'' (left + more)
  heard_on next h'' more longer told =
      let behind : drop h'.front (kept_rows next.kept) ≡ longer.0 = ap (λ (k : ℕ). drop k (kept_rows next.kept)) front_is ∙ ap (drop (length (kept_rows now.kept))) longer.1 ∙ drop-append_seam (kept_rows now.kept) longer.0 in
      record {
        rows = heard.rows ++ longer.0;
        longer = longer.1 ∙ ap (λ (l : List RowValue). l ++ longer.0) heard.longer ∙ append_assoc (kept_rows old.kept) heard.rows longer.0;
        told = pumped_twice h h' h'' heard.rows longer.0 left more heard.told (subst (λ (l : List RowValue). IsPumped h' h'' l more) behind told);
      }

-- so many that left can be counted
pub left_few : (old now : Log) (h h' : HubValue) (left : ℕ) → HaveHeard old now h h' left → count_left h'.members < 2 ^ 32 → left < 2 ^ 32
left_few old now h h' left heard few = omega (arith, heard.told.counted, few)

-- nothing is told yet
pub heard_none : (log : Log) (h : HubValue) → HaveHeard log log h h 0
heard_none log h = record { rows = []; longer = sym (append-nil (kept_rows log.kept)); told = pumped_nothing h }

-- ---- the end

-- what is new behind a log that goes on
behind_is : (rows more all : List RowValue) → all ≡ rows ++ more → drop (length rows) all ≡ more
behind_is rows more all is = ap (drop (length rows)) is ∙ drop-append_seam rows more

module _ (n : List ℕ) (had : List RawValue) (i now : SourceFacts) (old : Log) (h h' : HubValue) (left : ℕ) (whole : IsWholeLog n had old) where
  pub all_heard : (log : Log) → IsLogRead n had i now log → HaveHeard old log h h' left → IsHeard n had i now h h' log left
  all_heard log read heard =
      let all : new (authorised_rows n (had ++ read.rows)) ≡ new (authorised_rows n had) ++ heard.rows = sym read.whole.is_log.taken ∙ heard.longer ∙ ap (λ (l : List RowValue). l ++ heard.rows) whole.is_log.taken in
      record { read = read; told = subst (λ (l : List RowValue). IsPumped h h' l left) (sym (behind_is (new (authorised_rows n had)) heard.rows (new (authorised_rows n (had ++ read.rows))) all)) heard.told }

  pub some_heard : (next : SourceFacts) (reading : Reading) (intake : Intake) → HasRead n had i now reading intake → HaveHeard old intake.log h h' left → IsReadSomewhat now next → HaveHeardSome n had i next h h'
  some_heard next reading intake read heard more =
      let seen = read.seen in
      let come = read.come in
      let taken = read.taken_in in
      let rest = new-longer (authorised_rows n taken.judged) (authorised_rows n intake.waiting.items) in
      let all : new (authorised_rows n (had ++ seen)) ≡ new (authorised_rows n had) ++ (heard.rows ++ rest.0) =
      ap (λ (l : List RawValue). new (authorised_rows n l)) taken.parts
      ∙ ap new (authorised_parts n taken.judged intake.waiting.items)
      ∙ rest.1
      ∙ ap (λ (l : List RowValue). l ++ rest.0) (sym taken.is_log.taken ∙ heard.longer ∙ ap (λ (l : List RowValue). l ++ heard.rows) whole.is_log.taken)
      ∙ append_assoc (new (authorised_rows n had)) heard.rows rest.0 in
      let first : take (length heard.rows) (new_behind n had seen) ≡ heard.rows =
      ap (take (length heard.rows)) (behind_is (new (authorised_rows n had)) (heard.rows ++ rest.0) (new (authorised_rows n (had ++ seen))) all) ∙ take-append_seam heard.rows rest.0 in
      record {
        bytes = come.bytes;
        behind = more.0;
        taken = Consumes-trans i.left now.left next.left come.bytes more.0 come.consumed more.1;
        rows = seen;
        not_wrong = right_fed come.bytes seen reading.stream come.fed;
        count = length heard.rows;
        left = left;
        told = subst (λ (l : List RowValue). IsPumped h h' l left) (sym first) heard.told;
      }

-- where nothing was read nothing was told
pub none_heard : (n : List ℕ) (had : List RawValue) (i : SourceFacts) (h : HubValue) → HaveHeardSome n had i i h h
none_heard n had i h =
    record {
      bytes = [];
      behind = [];
      taken = Consumes-nil i.left;
      rows = [];
      not_wrong = right_so_far 0 [] [] [] tt (record { fit = tt; parts = refl; judged = λ there. absurd (omega (arith, there)) });
      count = 0;
      left = 0;
      told = pumped_nothing h;
    }

-- ---- the numbers

-- the numbers of some rows, and of these with more behind them
module _ (n : List ℕ) (had rows : List RawValue) (before counts : JoinCounts) (was : AreCounts n had before) (is : AreCounts n (had ++ rows) counts) where
  auths : length (authorised_rows n (had ++ rows)) ≡ length (authorised_rows n had) + length (authorised_rows n rows)
  auths = ap length (authorised_parts n had rows) ∙ length-append (authorised_rows n had) (authorised_rows n rows)

  more_new : log_length n had ≤ log_length n (had ++ rows)
  more_new = rw (authorised_parts n had rows) (new_after-longer is_covering [] (authorised_rows n had) (authorised_rows n rows))

  few_new : log_length n (had ++ rows) ≤ log_length n had + length (authorised_rows n rows)
  few_new = rw (authorised_parts n had rows) (new_after-more is_covering [] (authorised_rows n had) (authorised_rows n rows))

  pub rows_up : before.rows ≤ counts.rows
  rows_up = omega (arith, was.all, is.all, length-append had rows)

  pub rows_are : counts.rows - before.rows ≡ length rows
  rows_are = omega (arith, was.all, is.all, length-append had rows)

  pub stored_up : before.stored ≤ counts.stored
  stored_up = omega (arith, was.stored, is.stored, more_new)

  pub stored_are : counts.stored - before.stored ≡ length (new_behind n had rows)
  stored_are = omega (arith, was.stored, is.stored, more_new, length-drop (log_length n had) (new (authorised_rows n (had ++ rows))))

  pub kept_up : before.kept ≤ counts.kept
  kept_up = omega (arith, was.kept, is.kept, was.stored, is.stored, few_new, auths)

  pub kept_are : (counts.stored - before.stored) + (counts.kept - before.kept) ≡ length (authorised_rows n rows)
  kept_are = omega (arith, was.kept, is.kept, stored_up, kept_up, auths)

  pub refused_up : before.refused ≤ counts.refused
  refused_up = omega (arith, was.refused, is.refused, auths, authorised_few n rows, length-append had rows)

  pub refused_are : length (authorised_rows n rows) + (counts.refused - before.refused) ≡ length rows
  refused_are = omega (arith, was.refused, is.refused, refused_up, auths, length-append had rows)
