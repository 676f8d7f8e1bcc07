use Rattle.peer_stage.specs.Status.{tail_status}
use Rattle.peer_report.specs.Report.{met_behind}
use Rattle.peer_report.proofs.Statuses.{by_these, by_others}
use Rattle.peer_report.proofs.report.other_met.Goals as goal

pub returns-then-tail_met : goal.returns-then-tail_met
returns-then-tail_met c =
    let s = c.args.hosted.now in
    by_these c.args.status tail_status s.tails.items c.deref.result.now (met_behind s) c.tail_met.result c.deref.ensures.value c.tail_met.ensures c.if-tail_met.true

pub returns-else-tail_met : goal.returns-else-tail_met
returns-else-tail_met c =
    let s = c.args.hosted.now in
    by_others c.args.status tail_status s.tails.items c.deref.result.now (met_behind s) c.tail_met.result c.met_behind.result c.deref.ensures.value c.tail_met.ensures c.if-tail_met.false c.met_behind.ensures
