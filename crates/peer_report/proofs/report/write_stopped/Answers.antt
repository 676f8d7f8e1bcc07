use Rattle.std.specs.Prelude.{Some}
use Rattle.peer_stage.proofs.Faults.{counts_behind}
use Rattle.peer_stage.proofs.Pieces.{both_end}
use Rattle.peer_report.specs.Report.{kept_line}
use Rattle.peer_report.proofs.report.write_stopped.Goals as goal

pub returns-clause-writes : goal.returns-clause-writes
returns-clause-writes g c =
    let facts = g.E.Sink.facts in
    both_end (facts c.args.report.now) (facts c.write_output.new.output) (facts c.write_kept.new.report) c.args.line.now (kept_line (Some c.args.kept)) c.write_kept.result c.in_ok-write_output.ensures.writes c.in_ok-write_output.ensures.faults c.write_kept.ensures.writes

pub returns-clause-faults : goal.returns-clause-faults
returns-clause-faults g c =
    let facts = g.E.Sink.facts in
    counts_behind (facts c.args.report.now).faults (facts c.write_output.new.output).faults (facts c.write_kept.new.report).faults c.write_kept.result c.in_ok-write_output.ensures.faults c.write_kept.ensures.faults
