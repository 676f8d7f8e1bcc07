use Rattle.std.proofs.Common.{◌≡◌, map, take}
use Rattle.auth_entry.specs.Batch.{pending_refusal}
use Rattle.auth_entry.proofs.turns.in_order.Given as goal

abbrev pub invariant-rows : goal.invariant-rows
invariant-rows g l = l.causes.items ≡ map (pending_refusal g.S.Verify.rules) (take l.at l.pendings)
