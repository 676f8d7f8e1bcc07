use Rattle.std.proofs.Common.{◌≡◌, ◌++◌, drop, filter, map, take}
use Rattle.auth_entry.specs.Batch.{awaits_signature, pending_refusal, pending_signed}
use Rattle.auth_entry.proofs.signatures.put_causes_by.Given as goal

abbrev pub invariant-rows : goal.invariant-rows
invariant-rows g l = record {
  judged : l.causes.items ≡ l.fn.causes.items ++ map (pending_refusal g.S.Verify.rules) (take l.pending-index l.pendings);
  left : drop l.next l.answers ≡ map (pending_signed g.S.Verify.rules) (filter awaits_signature (drop l.pending-index l.pendings));
}
