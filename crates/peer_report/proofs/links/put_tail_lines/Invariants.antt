use Rattle.std.proofs.Common.{◌≡◌, ◌++◌, take}
use Rattle.peer_report.specs.Report.{numbered, tail_line}
use Rattle.peer_report.proofs.links.put_tail_lines.Given as goal

abbrev pub invariant-loop-index : goal.invariant-loop-index
invariant-loop-index l = l.text.items ≡ l.initial.text.items ++ numbered (tail_line l.awaited) 1 (take l.index l.tails)
