use Rattle.std.proofs.Common.{◌+◌, arith}
use Rattle.std.proofs.lemmas.Result.{err_from_is_err_and}
use Rattle.peer_report.specs.Report.{tail_line}
use Rattle.peer_report.proofs.LinkLines.{lines_more, lines_some, tail_some}
use Rattle.peer_report.proofs.links.put_tail_lines.Goals as goal

pub loop-index-preserved : goal.loop-index-preserved
loop-index-preserved c =
    lines_more (tail_line c.args.awaited) c.args.tails.now c.loop-index.index _ c.args.text.now.items c.loop-index.text.items c.put_tail_line.new.text.items (omega arith) c.loop-index.invariant c.in_ok-put_tail_line.ensures.text

pub returns-in_err-put_tail_line-clause-some : goal.returns-in_err-put_tail_line-clause-some
returns-in_err-put_tail_line-clause-some c =
    let p = err_from_is_err_and c.from_residual.result c.from_residual.ensures.1 in
    rw p.1 (lines_some (tail_line c.args.awaited) c.args.tails.now c.loop-index.index _ (omega arith) (tail_some c.args.awaited (c.loop-index.index + 1) _ c.in_err-put_tail_line.ensures.some))
