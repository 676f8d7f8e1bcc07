use Rattle.peer_stage.specs.Status.{session_status}
use Rattle.peer_report.specs.Report.{others_met}
use Rattle.peer_report.proofs.Statuses.{by_these, by_others}
use Rattle.peer_report.proofs.report.has_met.Goals as goal

pub returns-then-session_met : goal.returns-then-session_met
returns-then-session_met c =
    let s = c.args.hosted.now in
    by_these c.args.status session_status s.sessions.items c.deref.result.now (others_met s) c.session_met.result c.deref.ensures.value c.session_met.ensures c.if-session_met.true

pub returns-else-session_met : goal.returns-else-session_met
returns-else-session_met c =
    let s = c.args.hosted.now in
    by_others c.args.status session_status s.sessions.items c.deref.result.now (others_met s) c.session_met.result c.other_met.result c.deref.ensures.value c.session_met.ensures c.if-session_met.false c.other_met.ensures
