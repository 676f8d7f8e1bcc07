use Rattle.std.proofs.Common.{◌∙◌}
use Rattle.std.proofs.lemmas.Result.{err_from_is_err_and}
use Rattle.peer_stage.proofs.Faults.{counts_behind}
use Rattle.peer_report.proofs.Reporting.{kept_behind, kept_in_front}
use Rattle.peer_report.proofs.report.write_kept.Goals as goal

pub returns-in_err-write_output-clause-writes : goal.returns-in_err-write_output-clause-writes
returns-in_err-write_output-clause-writes g c =
    let facts = g.E.Sink.facts in
    let p = err_from_is_err_and c.from_residual.result c.from_residual.ensures.1 in
    rw (p.1, p.2) (kept_in_front (facts c.args.report.now) (facts c.write_output.new.output) c.args.kept c.in_err-write_output.field-0.0 c.in_err-write_output.ensures.writes)

pub returns-clause-writes : goal.returns-clause-writes
returns-clause-writes g c =
    let facts = g.E.Sink.facts in
    kept_behind (facts c.args.report.now) (facts c.write_output.new.output) (facts c.write_both.new.output) c.args.kept c.as_bytes.result.now c.write_both.result (c.as_bytes.ensures.value ∙ c.format.ensures.text)
    c.in_ok-write_output.ensures.writes c.in_ok-write_output.ensures.faults c.write_both.ensures.writes

pub returns-clause-faults : goal.returns-clause-faults
returns-clause-faults g c =
    let facts = g.E.Sink.facts in
    counts_behind (facts c.args.report.now).faults (facts c.write_output.new.output).faults (facts c.write_both.new.output).faults c.write_both.result c.in_ok-write_output.ensures.faults c.write_both.ensures.faults
