-- No count falls in a run, and no fault is passed over.
use Rattle.std.proofs.Common.{◌≡◌, ◌≢◌, ℕ, ◌≤◌, ◌⊎◌, Bool, true, false, refl, inl, inr, sym, ◌∙◌, subst, arith}
use Rattle.std.specs.Prelude.{Result, Err, nat_eq}
use Rattle.std.proofs.lemmas.Bool.{eqb-true}
use Rattle.std.proofs.lemmas.Bool.Decides.{nat_tests}
use Rattle.willow_outside.specs.Facts.{SinkFacts}
use Rattle.peer_stage.specs.World.{World, NeverFall, Unfailed}
use Rattle.peer_stage.specs.Status.{status_of}
use Rattle.peer_stage.specs.declared.outcome.Done.{Done}
use Rattle.peer_stage.specs.declared.outcome.Stop.{Stop}
use Rattle.peer_stage.specs.declared.outcome.Stop.TheVariants as stop
use Rattle.peer_stage.proofs.Owing.{stands, unfailed_same}
use Rattle.peer_report.specs.Report.{Reports}
use Rattle.peer_run.specs.Run.{Run, RunsWords, before_report}
use Rattle.peer_run.specs.Promises.{HidesNone, LacksLines}
use Rattle.peer_run.proofs.Ends.{after_is, own_status}
use Rattle.peer_run.proofs.Laws.{laws_of}

-- ---- no count falls

-- what is reported behind a command lowers none
behind : (run : Run) → NeverFall run.old (before_report run) → run.old.report.faults ≤ run.new.report.faults → NeverFall run.old run.new
behind run counts faults =
    record {
      shelf_reads = counts.shelf_reads;
      shelf_writes = counts.shelf_writes;
      input_faults = counts.input_faults;
      input_ends = counts.input_ends;
      output_faults = counts.output_faults;
      report_faults = faults;
      door_faults = counts.door_faults;
      noise_faults = counts.noise_faults;
      bay_faults = counts.bay_faults;
    }

untouched : (run : Run) → before_report run ≡ run.old → NeverFall run.old (before_report run)
untouched run same = subst (λ (w : World). NeverFall run.old w) (sym same) (stands run.old)

pub counts_stand : (run : Run) → RunsWords run → run.old.report.faults ≤ run.new.report.faults → NeverFall run.old run.new
counts_stand run (inl runs) faults = behind run ((laws_of runs.command).counts run.old (before_report run) runs.end runs.meets) faults
counts_stand run (inr (inl misused)) faults = behind run (untouched run misused.same) faults
counts_stand run (inr (inr unread)) faults = behind run (untouched run unread.same) faults

-- ---- no fault is passed over

same_unfailed : (run : Run) → before_report run ≡ run.old → Unfailed run.old (before_report run)
same_unfailed run same = subst (λ (w : World). Unfailed run.old w) (sym same) (unfailed_same run.old)

pub none_passed_over : (run : Run) → RunsWords run → run.status ≢ 3 → run.status ≢ 4 → run.status ≢ 7 → Unfailed run.old (before_report run)
none_passed_over run (inl runs) three four seven =
    let own = own_status _ _ runs.end run.status runs.reports four seven in
    (laws_of runs.command).unfailed run.old (before_report run) runs.end runs.meets (λ e. three (own ∙ e)) (λ e. four (own ∙ e)) (λ e. seven (own ∙ e))
none_passed_over run (inr (inl misused)) three four seven = same_unfailed run misused.same
none_passed_over run (inr (inr unread)) three four seven = same_unfailed run unread.same

-- ---- want of memory hides none

-- where the status is 7 the end has it, or the report found no memory
own_want : (run : Run) (end : Result Done Stop) → Reports run.old.report run.new.report end run.status → run.status ≡ 7 → (status_of end ≡ 7) ⊎ LacksLines run
own_want run end (inl told) seven = inl (sym told.status_is ∙ seven)
own_want run end (inr (inl fault)) seven = elim (after_is run.status (status_of end) fault.status_is) [ inl four ↦ absurd (omega (arith, four, seven)) | inr large ↦ inl (sym large.0 ∙ seven) ]
own_want run end (inr (inr none)) seven = by (nat_eq (status_of end) 7) refl where
  by : (b : Bool) → nat_eq (status_of end) 7 ≡ b → (status_of end ≡ 7) ⊎ LacksLines run
  by true is = inl (eqb-true _ _ is)
  by false is = inr (record { end = end; other = λ seven. absurd (grind (arith, nat_tests)); lines = none })

pub hides_none : (run : Run) → RunsWords run → run.status ≡ 7 → HidesNone run
hides_none run (inl runs) seven = elim (own_want run runs.end runs.reports seven) [
  | inl own ↦ elim ((laws_of runs.command).want run.old (before_report run) runs.end runs.meets own) [
    | inl stood ↦ inl stood
    | inr later ↦ inr (inl (runs.command, runs.is_words, later))
  ]
  | inr lacks ↦ inr (inr lacks)
]
hides_none run (inr (inl misused)) seven = inl (same_unfailed run misused.same)
hides_none run (inr (inr unread)) seven = inl (same_unfailed run unread.same)

-- with 0 or 1 the report was written without a fault
written_small : (r r' : SinkFacts) (end : Result Done Stop) (s : ℕ) → Reports r r' end s → s ≤ 1 → r'.faults ≡ r.faults
written_small r r' end s (inl told) small = told.unfailed
written_small r r' end s (inr (inl fault)) small = elim (after_is s (status_of end) fault.status_is) [ inl four ↦ absurd (omega (arith, four, small)) | inr large ↦ absurd (omega (arith, large.0, large.1, small)) ]
written_small r r' end s (inr (inr none)) small = absurd (omega (arith, none.status_is, small))

pub report_stood : (run : Run) → RunsWords run → run.status ≤ 1 → run.new.report.faults ≡ run.old.report.faults
report_stood run (inl runs) small = written_small _ _ runs.end run.status runs.reports small
report_stood run (inr (inl misused)) small = written_small _ _ (Err stop.Usage) run.status misused.reports small
report_stood run (inr (inr unread)) small = written_small _ _ (Err stop.NoMemory) run.status unread.reports small
