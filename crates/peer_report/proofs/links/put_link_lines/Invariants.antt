use Rattle.std.proofs.Common.{◌≡◌, ◌++◌, take}
use Rattle.peer_report.specs.Report.{link_line, numbered}
use Rattle.peer_report.proofs.links.put_link_lines.Given as goal

abbrev pub invariant-loop-index : goal.invariant-loop-index
invariant-loop-index l = l.text.items ≡ l.initial.text.items ++ numbered (link_line l.awaited) 1 (take l.index l.sessions)
