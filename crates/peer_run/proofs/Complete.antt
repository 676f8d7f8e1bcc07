-- A command that nothing is against comes to its end.
use Rattle.std.proofs.Common.{◌≢◌, ℕ, ◌≤◌, inl, inr, arith}
use Rattle.std.specs.Prelude.{Result}
use Rattle.willow_outside.specs.Counts.{Rose}
use Rattle.willow_outside.specs.Facts.{SinkFacts}
use Rattle.peer_stage.specs.Status.{status_of}
use Rattle.peer_stage.specs.declared.outcome.Done.{Done}
use Rattle.peer_stage.specs.declared.outcome.Stop.{Stop}
use Rattle.peer_report.specs.Report.{Reports}
use Rattle.peer_run.specs.Run.{Run, RunsWords, before_report}
use Rattle.peer_run.specs.Promises.{CanEnd, HasNoFault}
use Rattle.peer_run.proofs.Ends.{memory_end, own_seven}
use Rattle.peer_run.proofs.Laws.{laws_of}

-- an end with status 0 or 1 is told so, but for a fault of the report and want of memory
small_end : (r r' : SinkFacts) (end : Result Done Stop) (s : ℕ) → Reports r r' end s → status_of end ≤ 1 → (Rose r.faults r'.faults → ⊥) → s ≢ 7 → s ≤ 1
small_end r r' end s (inl told) small none memory = omega (arith, told.status_is, small)
small_end r r' end s (inr (inl fault)) small none memory = absurd (none fault.fault)
small_end r r' end s (inr (inr seven)) small none memory = absurd (memory seven.status_is)

pub complete : (run : Run) → RunsWords run → CanEnd run → HasNoFault run → run.status ≢ 7 → run.status ≤ 1
complete run (inr (inl misused)) can none memory = absurd (misused.no_command can.some_command can.is_words)
complete run (inr (inr unread)) can none memory = absurd (memory (memory_end _ _ run.status unread.reports))
complete run (inl runs) can none memory =
    let small =
    (laws_of runs.command).ends run.old (before_report run) runs.end runs.meets (can.is_ready runs.command runs.is_words)
    (none.reads runs.command runs.is_words) (none.writes runs.command runs.is_words) (λ seven. memory (own_seven _ _ runs.end run.status runs.reports seven)) in
    small_end _ _ runs.end run.status runs.reports small none.report_stands memory
