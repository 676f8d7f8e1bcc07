use Rattle.std.proofs.lemmas.Result.{err_from_is_err_and}
use Rattle.peer_report.proofs.Reporting.{nothing_told}
use Rattle.peer_report.proofs.report.write_told.Goals as goal

pub returns-in_err-lines-clause-writes : goal.returns-in_err-lines-clause-writes
returns-in_err-lines-clause-writes g c =
    let p = err_from_is_err_and c.from_residual.result c.from_residual.ensures.1 in
    rw (p.1, p.2) (nothing_told (g.E.Sink.facts c.args.report.now) c.args.end.now c.in_err-lines.ensures.some)
