use Rattle.std.proofs.Common.{◌≡◌, map, Bor}
use Rattle.cap_codec.specs.Rows.{RawValue}
use Rattle.auth_entry.specs.Authorised.{capability_refusal}
use Rattle.auth_entry.proofs.checker.remember_valid.Given as goal

abbrev pub invariant-loop-row : goal.invariant-loop-row
invariant-loop-row g l =
    (l.row-iterator.b.rest.now ≡ map (λ (row : Bor RawValue). capability_refusal g.S.Verify.rules row.now.token.capability) l.row-iterator.a.rest.now)
    × (g.C.Checker.judged_in l.checker ≡ g.C.Checker.judged_in l.fn.checker)
