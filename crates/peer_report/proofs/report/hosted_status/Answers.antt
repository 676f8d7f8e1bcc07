use Rattle.std.proofs.Common.{◌∙◌, refl, sym}
use Rattle.peer_stage.specs.Status.{statuses_met}
use Rattle.peer_stage.specs.declared.outcome.Done.TheVariants as done
use Rattle.peer_report.proofs.Statuses.{told_at, told_behind, told_none}
use Rattle.peer_report.proofs.report.hosted_status.Goals as goal

pub returns-then-has_met : goal.returns-then-has_met
returns-then-has_met c =
    told_at c.loop-status.status-index _ (statuses_met (done.Hosted c.args.hosted.now)) c.loop-status-test.true refl (sym c.has_met.ensures ∙ c.if-has_met.true) c.loop-status.invariant

pub loop-status-preserved : goal.loop-status-preserved
loop-status-preserved c =
    told_behind c.loop-status.status-index _ (statuses_met (done.Hosted c.args.hosted.now)) c.loop-status-test.true refl (sym c.has_met.ensures ∙ c.if-has_met.false) c.loop-status.invariant

pub returns : goal.returns
returns c = told_none c.loop-status.status-index (statuses_met (done.Hosted c.args.hosted.now)) c.loop-status-test.false c.loop-status.invariant
