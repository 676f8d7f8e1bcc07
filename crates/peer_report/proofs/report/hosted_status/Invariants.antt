use Rattle.std.proofs.Common.{◌≡◌, drop}
use Rattle.call_rules.specs.Told.{first_met, told_order}
use Rattle.peer_stage.specs.Status.{statuses_met}
use Rattle.peer_stage.specs.declared.outcome.Done.TheVariants as done
use Rattle.peer_report.proofs.report.hosted_status.Given as goal

-- nothing was met that is told before what is left
abbrev pub invariant-loop-status : goal.invariant-loop-status
invariant-loop-status l = first_met told_order (statuses_met (done.Hosted l.hosted)) ≡ first_met (drop l.status-index told_order) (statuses_met (done.Hosted l.hosted))
