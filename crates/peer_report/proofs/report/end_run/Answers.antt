use Rattle.peer_report.proofs.Reporting.{reports}
use Rattle.peer_report.proofs.report.end_run.Goals as goal

pub returns-clause-reports : goal.returns-clause-reports
returns-clause-reports g c =
    let facts = g.E.Sink.facts in
    reports (facts c.args.report.now) (facts c.write_lines-written.new.report) c.args.end.now c.told_status.result c.write_lines-written.result c.write_lines-written.ensures.writes c.write_lines-written.ensures.faults c.told_status.ensures
