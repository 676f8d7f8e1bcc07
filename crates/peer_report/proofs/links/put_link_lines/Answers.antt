use Rattle.std.proofs.Common.{◌+◌, arith}
use Rattle.std.specs.Prelude.{Err}
use Rattle.std.proofs.lemmas.Result.{err_from_is_err_and}
use Rattle.session_end.specs.declared.end.SessionEnd.TheVariants.{NoMemory}
use Rattle.peer_report.specs.Report.{link_line}
use Rattle.peer_report.proofs.LinkLines.{lines_more, lines_some, link_some}
use Rattle.peer_report.proofs.links.put_link_lines.Goals as goal

pub loop-index-preserved : goal.loop-index-preserved
loop-index-preserved c =
    lines_more (link_line c.args.awaited) c.args.sessions.now c.loop-index.index _ c.args.text.now.items c.loop-index.text.items c.put_link_line.new.text.items (omega arith) c.loop-index.invariant c.in_ok-put_link_line.ensures

pub returns-in_err-put_link_line-clause-some : goal.returns-in_err-put_link_line-clause-some
returns-in_err-put_link_line-clause-some c =
    let p = err_from_is_err_and c.from_residual.result c.from_residual.ensures.1 in
    rw p.1 (lines_some (link_line c.args.awaited) c.args.sessions.now c.loop-index.index (Err NoMemory) (omega arith) (link_some c.args.awaited (c.loop-index.index + 1) _))
