use Rattle.std.proofs.Common.{◌≡◌, map, take}
use Rattle.scheme_core.specs.Claims.{accepts_claim}
use Rattle.scheme_core.proofs.many.verify_each.Given as goal

abbrev pub invariant-claims : goal.invariant-claims
invariant-claims g l = l.answers.items ≡ map (accepts_claim g.S.Verify.rules) (take l.claim-index l.claims)
