use Rattle.std.proofs.Common.{◌≡◌, ◌++◌, map, length}
use Rattle.auth_entry.specs.Authorised.{row_refusal}
use Rattle.auth_entry.proofs.checker.put_all_refusals.Given as goal

abbrev pub invariant-segments : goal.invariant-segments
invariant-segments g l = record {
  judged : l.refusals.items ++ map (row_refusal g.S.Verify.rules (g.C.Checker.judged_in l.fn.checker)) l.left ≡ l.fn.refusals.items ++ map (row_refusal g.S.Verify.rules (g.C.Checker.judged_in l.fn.checker)) l.rows;
  same : g.C.Checker.judged_in l.checker ≡ g.C.Checker.judged_in l.fn.checker;
}

abbrev pub decreases-segments : goal.decreases-segments
decreases-segments g l = length l.left
