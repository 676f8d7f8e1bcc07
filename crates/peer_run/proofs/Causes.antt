-- What each status says of a run.
use Rattle.std.proofs.Common.{◌≡◌, ◌≢◌, ℕ, ◌≤◌, ◌⊎◌, inl, inr, refl, sym, ap, ◌∙◌, arith}
use Rattle.std.specs.Prelude.{Result, Err}
use Rattle.willow_outside.specs.Counts.{Rose}
use Rattle.willow_outside.specs.Facts.{SinkFacts}
use Rattle.peer_stage.specs.Status.{status_of}
use Rattle.peer_stage.proofs.Ends.{known}
use Rattle.peer_stage.specs.declared.outcome.Done.{Done}
use Rattle.peer_stage.specs.declared.outcome.Stop.{Stop}
use Rattle.peer_stage.specs.declared.outcome.Stop.TheVariants as stop
use Rattle.peer_report.specs.Report.{Reports, after_report_fault, report_of}
use Rattle.peer_run.specs.Deeds.{deed_of}
use Rattle.peer_run.specs.Run.{Run, RunsWords, before_report}
use Rattle.peer_run.specs.Promises.{HasEnded, HasStopped, HasReadFault, HasWriteFault, IsNoRun, IsSomeRun, IsBadEnd, IsRefusedEnd, IsFullEnd, IsSpentEnd}
use Rattle.peer_run.specs.Ending.{HasTold}
use Rattle.peer_run.proofs.Ends.{own_status, after_is, memory_end, is_end, bad_end, refused_end, full_end, spent_end}
use Rattle.peer_run.proofs.Laws.{laws_of}
use Rattle.peer_run.proofs.SignedAll.{SignsEnd, signs_end}

-- of a run without a command the status is 2, 4 or 7
no_command : (r r' : SinkFacts) (s : ℕ) → Reports r r' (Err stop.Usage) s → s ≢ 4 → s ≢ 7 → s ≡ 2
no_command r r' s reports other memory = own_status r r' (Err stop.Usage) s reports other memory

-- ---- 0 and 1

pub ended : (run : Run) → RunsWords run → run.status ≤ 1 → HasEnded run
ended run (inr (inl misused)) small =
    let two = no_command _ _ run.status misused.reports (λ e. omega (arith, e, small)) (λ e. omega (arith, e, small)) in absurd (omega (arith, two, small))
ended run (inr (inr none)) small =
    absurd (omega (arith, memory_end _ _ run.status none.reports, small))
ended run (inl runs) small = go runs.reports where
  is : run.status ≡ status_of runs.end
  is = own_status _ _ runs.end run.status runs.reports (λ e. omega (arith, e, small)) (λ e. omega (arith, e, small))

  go : Reports run.old.report run.new.report runs.end run.status → HasEnded run
  go (inl told) = record {
    command = runs.command;
    is_words = runs.is_words;
    end = runs.end;
    is_end = is_end runs.end (omega (arith, is, small));
    meets = runs.meets;
    reported = told.written;
    status_is = is;
  }
  go (inr (inl fault)) = elim (after_is run.status (status_of runs.end) fault.status_is) [ inl four ↦ absurd (omega (arith, four, small)) | inr large ↦ absurd (omega (arith, large.0, large.1, small)) ]
  go (inr (inr none)) = absurd (omega (arith, none.status_is, small))

-- ---- the stops

-- what the report tells of an end, where no memory was wanted
pub has_told : (r r' : SinkFacts) (end : Result Done Stop) (s : ℕ) → Reports r r' end s → s ≢ 7 → HasTold r r' (report_of end)
has_told r r' end s (inl told) memory = inl told.written
has_told r r' end s (inr (inl fault)) memory = inr (fault.written, fault.fault)
has_told r r' end s (inr (inr none)) memory = absurd (memory none.status_is)

-- a run with another status than 0, 1, 2, 4 and 7 is one of a command that stopped
stopped : (IsOne : Result Done Stop → Type 0) (k : ℕ) → ((end : Result Done Stop) → SignsEnd end → status_of end ≡ k → IsOne end) → k ≢ 2 → k ≢ 4 → k ≢ 7
    → (run : Run) → RunsWords run → run.status ≡ k → HasStopped IsOne run
stopped IsOne k each two four seven run (inr (inl misused)) is = absurd (two (sym is ∙ no_command _ _ run.status misused.reports (λ e. four (sym is ∙ e)) (λ e. seven (sym is ∙ e))))
stopped IsOne k each two four seven run (inr (inr none)) is = absurd (seven (sym is ∙ memory_end _ _ run.status none.reports))
stopped IsOne k each two four seven run (inl runs) is =
    record {
      command = runs.command;
      is_words = runs.is_words;
      end = runs.end;
      is_one = each runs.end (signs_end runs.command run.old (before_report run) runs.end runs.meets) (sym (own_status _ _ runs.end run.status runs.reports (λ e. four (sym is ∙ e)) (λ e. seven (sym is ∙ e))) ∙ is);
      meets = runs.meets;
      told = has_told _ _ runs.end run.status runs.reports (λ e. seven (sym is ∙ e));
    }

pub bad_input : (run : Run) → RunsWords run → run.status ≡ 5 → HasStopped IsBadEnd run
bad_input = stopped IsBadEnd 5 (λ end signs. bad_end end) (λ e. omega (arith, e)) (λ e. omega (arith, e)) (λ e. omega (arith, e))

pub refused : (run : Run) → RunsWords run → run.status ≡ 6 → HasStopped IsRefusedEnd run
refused = stopped IsRefusedEnd 6 refused_end (λ e. omega (arith, e)) (λ e. omega (arith, e)) (λ e. omega (arith, e))

pub log_full : (run : Run) → RunsWords run → run.status ≡ 8 → HasStopped IsFullEnd run
log_full = stopped IsFullEnd 8 (λ end signs. full_end end) (λ e. omega (arith, e)) (λ e. omega (arith, e)) (λ e. omega (arith, e))

pub key_spent : (run : Run) → RunsWords run → run.status ≡ 9 → HasStopped IsSpentEnd run
key_spent = stopped IsSpentEnd 9 (λ end signs. spent_end end) (λ e. omega (arith, e)) (λ e. omega (arith, e)) (λ e. omega (arith, e))

-- ---- 2

pub usage : (run : Run) → RunsWords run → run.status ≡ 2 → IsNoRun run.words × (before_report run ≡ run.old)
usage run (inr (inl misused)) is = (inl misused.no_command, misused.same)
usage run (inr (inr none)) is =
    absurd (omega (arith, memory_end _ _ run.status none.reports, is))
usage run (inl runs) is =
    let two = sym (own_status _ _ runs.end run.status runs.reports (λ e. omega (arith, e, is)) (λ e. omega (arith, e, is))) ∙ is in
    let both = (laws_of runs.command).usage run.old (before_report run) runs.end runs.meets two in
    (inr (runs.command, runs.is_words, both.0), both.1)

-- an end with 2 is told so, but for want of memory
two_end : (r r' : SinkFacts) (end : Result Done Stop) (s : ℕ) → Reports r r' end s → status_of end ≡ 2 → s ≢ 7 → s ≡ 2
two_end r r' end s (inl told) two memory = told.status_is ∙ two
two_end r r' end s (inr (inl fault)) two memory = fault.status_is ∙ ap after_report_fault two
two_end r r' end s (inr (inr none)) two memory = absurd (memory none.status_is)

pub is_command : (run : Run) → RunsWords run → run.status ≢ 2 → run.status ≢ 7 → IsSomeRun run.words
is_command run (inl runs) two seven =
    let ends_so = (laws_of runs.command).no_run run.old (before_report run) runs.end runs.meets in
    (runs.command, runs.is_words, λ unbuilt. two (two_end _ _ runs.end run.status runs.reports (ends_so unbuilt) seven))
is_command run (inr (inl misused)) two seven = absurd (two (two_end _ _ (Err stop.Usage) run.status misused.reports refl seven))
is_command run (inr (inr none)) two seven = absurd (seven (memory_end _ _ run.status none.reports))

-- ---- 3 and 4

pub read_fault : (run : Run) → RunsWords run → run.status ≡ 3 → HasReadFault run
read_fault run (inr (inl misused)) is =
    absurd (omega (arith, no_command _ _ run.status misused.reports (λ e. omega (arith, e, is)) (λ e. omega (arith, e, is)), is))
read_fault run (inr (inr none)) is =
    absurd (omega (arith, memory_end _ _ run.status none.reports, is))
read_fault run (inl runs) is =
    let three = sym (own_status _ _ runs.end run.status runs.reports (λ e. omega (arith, e, is)) (λ e. omega (arith, e, is))) ∙ is in
    record { command = runs.command; is_words = runs.is_words; rose = (laws_of runs.command).read_fault run.old (before_report run) runs.end runs.meets three }

pub write_fault : (run : Run) → RunsWords run → run.status ≡ 4 → HasWriteFault run
write_fault run (inr (inl misused)) is =
    absurd (omega (arith, two_end _ _ (Err stop.Usage) run.status misused.reports refl (λ e. omega (arith, e, is)), is))
write_fault run (inr (inr none)) is =
    absurd (omega (arith, memory_end _ _ run.status none.reports, is))
write_fault run (inl runs) is = record { command = runs.command; is_words = runs.is_words; rose = go runs.reports } where
  go : Reports run.old.report run.new.report runs.end run.status → (deed_of runs.command).writes run.old (before_report run) ⊎ Rose run.old.report.faults run.new.report.faults
  go (inl told) = inl ((laws_of runs.command).write_fault run.old (before_report run) runs.end runs.meets (sym told.status_is ∙ is))
  go (inr (inl fault)) = inr fault.fault
  go (inr (inr none)) = absurd (omega (arith, none.status_is, is))

-- ---- no other status

pub statuses : (run : Run) → RunsWords run → run.status ≤ 9
statuses run runs = go runs where
  of_end : (end : Result Done Stop) → Reports run.old.report run.new.report end run.status → run.status ≤ 9
  of_end end (inl told) = omega (arith, told.status_is, known end)
  of_end end (inr (inl fault)) = elim (after_is run.status (status_of end) fault.status_is) [ inl four ↦ omega (arith, four) | inr same ↦ omega (arith, same.0, known end) ]
  of_end end (inr (inr none)) = omega (arith, none.status_is)

  go : RunsWords run → run.status ≤ 9
  go (inl r1) = of_end r1.end r1.reports
  go (inr (inl m)) = of_end (Err stop.Usage) m.reports
  go (inr (inr n)) = of_end (Err stop.NoMemory) n.reports
