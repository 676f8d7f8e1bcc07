use Rattle.std.proofs.Common.{◌≡◌}
use Rattle.std.specs.Vec.Iter.{into_iter_items}
use Rattle.peer_rows.specs.Logged.{stored_rows}
use Rattle.peer_rows.proofs.DrilledRows.{AreJudged}
use Rattle.peer_rows.proofs.drilled.judge_shares.Given as goal

abbrev pub invariant-loop-share : goal.invariant-loop-share
invariant-loop-share g l = record {
  checks : g.C.Checker.judged_in l.checker ≡ g.C.Checker.judged_in l.fn.checker;
  judged : AreJudged l.from l.to (stored_rows l.fn.entries.items) (stored_rows l.entries.items) (into_iter_items l.share-iterator);
}
