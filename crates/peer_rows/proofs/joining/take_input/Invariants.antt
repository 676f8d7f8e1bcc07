use Rattle.std.proofs.Common.{◌≡◌, ◌≤◌}
use Rattle.peer_rows.specs.Joining.{IsUnderWay}
use Rattle.peer_rows.proofs.joining.take_input.Given as goal

abbrev pub invariant-steps : goal.invariant-steps
invariant-steps g l = record {
  under_way : IsUnderWay (g.C.Checker.judged_in l.fn.checker) (g.I.Source.facts l.fn.input) (g.I.Source.facts l.input) l.reading l.keeping;
  checks : g.C.Checker.judged_in l.checker ≡ g.C.Checker.judged_in l.fn.checker;
  no_fault : (g.I.Source.facts l.input).faults ≡ (g.I.Source.facts l.fn.input).faults;
  ends : (g.I.Source.facts l.fn.input).ends ≤ (g.I.Source.facts l.input).ends;
}

abbrev pub decreases-steps : goal.decreases-steps
decreases-steps g l = l.reading.left
