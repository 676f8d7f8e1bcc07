use Rattle.std.proofs.Common.{Bor, ◌+◌, ◌≤◌, length, refl, arith}
use Rattle.cap_codec.specs.Rows.{RawValue}
use Rattle.auth_entry.specs.Authorised.{capability_refusal}
use Rattle.auth_entry.proofs.Lists.{group_more}
use Rattle.auth_entry.proofs.together.causes_together.Goals as goal

pub groups-preserved : goal.groups-preserved
groups-preserved g c =
    let inv = c.groups.invariant in
    let within : c.groups.from + c.min.result ≤ length c.args.rows.now = omega (arith, c.min.ensures, inv.within) in
    let grown = group_more (capability_refusal g.S.Verify.rules) (λ (row : Bor RawValue). row.now.token.capability) c.args.rows.now c.groups.from (c.groups.from + c.min.result)
    c.groups.causes.items _ (omega arith) inv.within inv.judged refl in
    record { judged = rw c.in_ok-put_causes.ensures.causes grown; within = within }
