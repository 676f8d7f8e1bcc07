use Rattle.std.proofs.Common.{◌≡◌, ◌++◌}
use Rattle.std.specs.Vec.Iter.{into_iter_items}
use Rattle.peer_rows.proofs.DrilledRows.{entries_of}
use Rattle.peer_rows.proofs.drilled.judge.Given as goal

abbrev pub invariant-loop-judged : goal.invariant-loop-judged
invariant-loop-judged g l = l.entries.items ++ entries_of (into_iter_items l.judged-iterator) ≡ l.fn.entries.items ++ entries_of (into_iter_items l.initial.judged-iterator)
