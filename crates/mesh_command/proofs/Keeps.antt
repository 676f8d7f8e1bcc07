-- What follows of every run of a mesh.
use Rattle.std.proofs.Common.{◌≡◌, ◌≢◌, ℕ, ◌≤◌, ◌<◌, ◌⊎◌, Bool, true, false, inl, inr, List, [], refl, sym, ◌∙◌, subst, arith}
use Rattle.std.specs.Prelude.{Result, Err, nat_eq}
use Rattle.std.proofs.lemmas.Bool.{eqb-true}
use Rattle.std.proofs.lemmas.Bool.Decides.{nat_tests}
use Rattle.willow_outside.specs.Counts.{Rose}
use Rattle.peer_stage.specs.World.{World, NeverFall, Unfailed}
use Rattle.peer_stage.specs.Stages.{IsWritten}
use Rattle.peer_stage.specs.Status.{status_of}
use Rattle.peer_stage.specs.declared.outcome.Done.{Done}
use Rattle.peer_stage.specs.declared.outcome.Stop.{Stop}
use Rattle.peer_stage.specs.declared.outcome.Stop.TheVariants as stop
use Rattle.peer_stage.proofs.Owing.{stands, unfailed_same}
use Rattle.peer_report.specs.Report.{Reports, report_of}
use Rattle.mesh_answers.specs.Rules.{MeshRules}
use Rattle.mesh_command.specs.Runs.{MeshRun, RunsNothing, RunsLines, RunsMesh, before_told}
use Rattle.mesh_command.specs.Promises.{CanRun, HasAnswered, HasBegun, HasNoMeshFault, HasRefusedInput, HasRefusedWords, HasToldReport, IsMeshStatus, KeepsMesh, LacksReport}
use Rattle.mesh_command.proofs.Deeds.{mesh_is_lawful}
use Rattle.mesh_command.proofs.Ends.{EndsSo, ends_so, six, zero_end, five_end, good_end, after_is, told_status, own_status, own_seven, own_two, has_told, told_whole}

module _ (rules : MeshRules) (run : MeshRun) where
  -- ---- a run with a word

  misused_two : RunsNothing run → run.status ≢ 7 → run.status ≡ 2
  misused_two misused seven = own_two _ _ (Err stop.Usage) run.status misused.reports refl seven

  not_misused : (k : ℕ) → k ≢ 2 → k ≢ 7 → RunsNothing run → run.status ≡ k → ⊥
  not_misused k two seven misused is = two (sym is ∙ misused_two misused (λ e. seven (sym is ∙ e)))

  -- ---- a run of lines

  so : (runs : RunsLines rules run) → EndsSo rules run.old (before_told run) runs.end
  so runs = ends_so rules run.old (before_told run) runs.end runs.meets

  own : (runs : RunsLines rules run) → run.status ≢ 4 → run.status ≢ 7 → run.status ≡ status_of runs.end
  own runs four seven = own_status _ _ runs.end run.status runs.reports four seven

  -- ---- what each status tells

  answered : RunsMesh rules run → run.status ≡ 0 → HasAnswered rules run
  answered (inr misused) zero = absurd (not_misused 0 (λ e. omega (arith, e)) (λ e. omega (arith, e)) misused zero)
  answered (inl runs) zero =
      let ended = zero_end rules run.old (before_told run) runs.end (so runs) (sym (own runs (λ e. omega (arith, e, zero)) (λ e. omega (arith, e, zero))) ∙ zero) in
      record {
        no_words = runs.no_words;
        text = ended.0.1.0;
        read = ended.0.1.1;
        written = ended.0.1.2;
        reported = subst (λ (end : Result Done Stop). IsWritten run.old.report run.new.report (report_of end)) ended.1 (told_whole _ _ runs.end run.status runs.reports zero);
      }

  usage : RunsMesh rules run → run.status ≡ 2 → HasRefusedWords run
  usage (inr misused) two = record { some_word = misused.some_word; untouched = misused.same; told = has_told _ _ (Err stop.Usage) run.status misused.reports (λ e. omega (arith, e, two)) }
  usage (inl runs) two = absurd ((six rules run.old (before_told run) runs.end (so runs)).3 (sym (own runs (λ e. omega (arith, e, two)) (λ e. omega (arith, e, two))) ∙ two))

  words : RunsMesh rules run → run.words ≢ [] → run.status ≢ 7 → run.status ≡ 2
  words (inr misused) some seven = misused_two misused seven
  words (inl runs) some seven = absurd (some runs.no_words)

  read_fault : RunsMesh rules run → run.status ≡ 3 → Rose run.old.input.faults run.new.input.faults
  read_fault (inr misused) three = absurd (not_misused 3 (λ e. omega (arith, e)) (λ e. omega (arith, e)) misused three)
  read_fault (inl runs) three =
      (mesh_is_lawful rules).read_fault run.old (before_told run) runs.end runs.meets (sym (own runs (λ e. omega (arith, e, three)) (λ e. omega (arith, e, three))) ∙ three)

  write_fault : RunsMesh rules run → run.status ≡ 4 → Rose run.old.output.faults run.new.output.faults ⊎ Rose run.old.report.faults run.new.report.faults
  write_fault (inr misused) four = absurd (not_misused 4 (λ e. omega (arith, e)) (λ e. omega (arith, e)) misused four)
  write_fault (inl runs) four = elim (told_status _ _ runs.end run.status runs.reports) [
    | inl is ↦ inl ((mesh_is_lawful rules).write_fault run.old (before_told run) runs.end runs.meets (sym is ∙ four))
    | inr (inl fault) ↦ inr fault.2
    | inr (inr seven) ↦ absurd (omega (arith, four, seven))
  ]

  bad_input : RunsMesh rules run → run.status ≡ 5 → HasRefusedInput run
  bad_input (inr misused) five = absurd (not_misused 5 (λ e. omega (arith, e)) (λ e. omega (arith, e)) misused five)
  bad_input (inl runs) five =
      let bad = five_end rules run.old (before_told run) runs.end (so runs) (sym (own runs (λ e. omega (arith, e, five)) (λ e. omega (arith, e, five))) ∙ five) in
      record {
        no_words = runs.no_words;
        at = bad.at;
        wrong = bad.wrong;
        unwritten = bad.unwritten;
        told = subst (λ (lines : List ℕ). HasToldReport run.old.report run.new.report lines) bad.line (has_told _ _ runs.end run.status runs.reports (λ e. omega (arith, e, five)));
      }

  -- an end with 0 or 1 may be told as 4, and no other
  end_is : (runs : RunsLines rules run) (k : ℕ) → 1 < k → run.status ≢ k → run.status ≢ 7 → status_of runs.end ≢ k
  end_is runs k large not_k seven is = elim (told_status _ _ runs.end run.status runs.reports) [
    | inl same ↦ not_k (same ∙ is)
    | inr (inl fault) ↦ omega (arith, fault.1, is, large)
    | inr (inr none) ↦ seven none
  ]

  good_input : RunsMesh rules run → run.status ≢ 2 → run.status ≢ 3 → run.status ≢ 5 → run.status ≢ 7 → HasBegun rules run
  good_input (inr misused) two three five seven = absurd (two (misused_two misused seven))
  good_input (inl runs) two three five seven =
      let good = good_end rules run.old (before_told run) runs.end (so runs) (end_is runs 3 (omega arith) three seven) (end_is runs 5 (omega arith) five seven)
      (λ is. seven (own_seven _ _ runs.end run.status runs.reports is)) in
      record { no_words = runs.no_words; text = good.0; read = good.1; written = good.2 }

  -- ---- statuses and counts

  statuses : RunsMesh rules run → IsMeshStatus run.status
  statuses (inr misused) = elim (told_status _ _ (Err stop.Usage) run.status misused.reports) [
    | inl is ↦ record { small = omega (arith, is); not_1 = λ e. omega (arith, e, is); not_6 = λ e. omega (arith, e, is) }
    | inr (inl fault) ↦ absurd (omega (arith, fault.1))
    | inr (inr seven) ↦ record { small = omega (arith, seven); not_1 = λ e. omega (arith, e, seven); not_6 = λ e. omega (arith, e, seven) }
  ]
  statuses (inl runs) =
      let ends = six rules run.old (before_told run) runs.end (so runs) in
      elim (told_status _ _ runs.end run.status runs.reports) [
        | inl is ↦ record { small = omega (arith, is, ends.0); not_1 = λ e. ends.1 (sym is ∙ e); not_6 = λ e. ends.2 (sym is ∙ e) }
        | inr (inl fault) ↦ record { small = omega (arith, fault.0); not_1 = λ e. omega (arith, e, fault.0); not_6 = λ e. omega (arith, e, fault.0) }
        | inr (inr seven) ↦ record { small = omega (arith, seven); not_1 = λ e. omega (arith, e, seven); not_6 = λ e. omega (arith, e, seven) }
      ]

  same_unfailed : RunsNothing run → Unfailed run.old (before_told run)
  same_unfailed misused = subst (λ (w : World). Unfailed run.old w) (sym misused.same) (unfailed_same run.old)

  unfailed : RunsMesh rules run → run.status ≢ 3 → run.status ≢ 4 → run.status ≢ 7 → Unfailed run.old (before_told run)
  unfailed (inr misused) three four seven = same_unfailed misused
  unfailed (inl runs) three four seven =
      let is = own runs four seven in
      (mesh_is_lawful rules).unfailed run.old (before_told run) runs.end runs.meets (λ e. three (is ∙ e)) (λ e. four (is ∙ e)) (λ e. seven (is ∙ e))

  -- with 7 the end has it, or the report found no memory
  own_want : (end : Result Done Stop) → Reports run.old.report run.new.report end run.status → run.status ≡ 7 → (status_of end ≡ 7) ⊎ LacksReport run
  own_want end (inl told) seven = inl (sym told.status_is ∙ seven)
  own_want end (inr (inl fault)) seven = elim (after_is run.status (status_of end) fault.status_is) [ inl four ↦ absurd (omega (arith, four, seven)) | inr large ↦ inl (sym large.0 ∙ seven) ]
  own_want end (inr (inr none)) seven = by (nat_eq (status_of end) 7) refl where
    by : (b : Bool) → nat_eq (status_of end) 7 ≡ b → (status_of end ≡ 7) ⊎ LacksReport run
    by true is = inl (eqb-true _ _ is)
    by false is = inr (record { end = end; other = λ seven. absurd (grind (arith, nat_tests)); lines = none })

  want : RunsMesh rules run → run.status ≡ 7 → Unfailed run.old (before_told run) ⊎ LacksReport run
  want (inr misused) seven = inl (same_unfailed misused)
  want (inl runs) seven = elim (own_want runs.end runs.reports seven) [
    | inl is ↦ elim ((mesh_is_lawful rules).want run.old (before_told run) runs.end runs.meets is) [ inl stood ↦ inl stood | inr later ↦ absurd later ]
    | inr lacks ↦ inr lacks
  ]

  behind : NeverFall run.old (before_told run) → run.old.report.faults ≤ run.new.report.faults → NeverFall run.old run.new
  behind counts faults =
      record {
        shelf_reads = counts.shelf_reads;
        shelf_writes = counts.shelf_writes;
        input_faults = counts.input_faults;
        input_ends = counts.input_ends;
        output_faults = counts.output_faults;
        report_faults = faults;
        door_faults = counts.door_faults;
        noise_faults = counts.noise_faults;
        bay_faults = counts.bay_faults;
      }

  counts : RunsMesh rules run → run.old.report.faults ≤ run.new.report.faults → NeverFall run.old run.new
  counts (inl runs) faults = behind ((mesh_is_lawful rules).counts run.old (before_told run) runs.end runs.meets) faults
  counts (inr misused) faults = behind (subst (λ (w : World). NeverFall run.old w) (sym misused.same) (stands run.old)) faults

  complete : RunsMesh rules run → CanRun run → HasNoMeshFault run → run.status ≢ 7 → run.status ≡ 0
  complete (inr misused) can none seven = absurd (misused.some_word can.no_words)
  complete (inl runs) can none seven =
      let small = (mesh_is_lawful rules).ends run.old (before_told run) runs.end runs.meets can.ready none.reads none.writes (λ is. seven (own_seven _ _ runs.end run.status runs.reports is)) in
      let ends = six rules run.old (before_told run) runs.end (so runs) in
      elim (told_status _ _ runs.end run.status runs.reports) [
        | inl is ↦ zero (status_of runs.end) is small ends.1
        | inr (inl fault) ↦ absurd (none.report_stands fault.2)
        | inr (inr memory) ↦ absurd (seven memory)
      ]
    where
      zero : (s : ℕ) → run.status ≡ s → s ≤ 1 → s ≢ 1 → run.status ≡ 0
      zero s is few other = omega (arith, is, few, other)

  pub keeps : RunsMesh rules run → run.old.report.faults ≤ run.new.report.faults → KeepsMesh rules run
  keeps runs faults =
      record {
        runs = runs;
        answered = answered runs;
        usage = usage runs;
        words = words runs;
        read_fault = read_fault runs;
        write_fault = write_fault runs;
        bad_input = bad_input runs;
        good_input = good_input runs;
        statuses = statuses runs;
        unfailed = unfailed runs;
        want = want runs;
        counts = counts runs faults;
        complete = complete runs;
      }
