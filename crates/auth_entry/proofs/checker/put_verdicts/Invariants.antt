use Rattle.std.proofs.Common.{◌≡◌, ◌++◌, map}
use Rattle.std.specs.Vec.Iter.{into_iter_items}
use Rattle.auth_entry.specs.Authorised.{row_refusal, verdict}
use Rattle.auth_entry.proofs.checker.put_verdicts.Given as goal

abbrev pub invariant-loop-row : goal.invariant-loop-row
invariant-loop-row g l =
    (l.verdicts.items ++ map (verdict g.S.Verify.rules l.namespace) (into_iter_items l.row-iterator.a) ≡ l.fn.verdicts.items ++ map (verdict g.S.Verify.rules l.namespace) (into_iter_items l.fn.rows))
    × (l.row-iterator.b.rest.now ≡ map (row_refusal g.S.Verify.rules l.namespace) (into_iter_items l.row-iterator.a))
