use Rattle.std.proofs.Common.{◌≡◌, drop, filter, map, take}
use Rattle.scheme_core.specs.Claims.{accepts_claim}
use Rattle.scheme_core.specs.OpenClaims.{needs_digest, open_signature_of}
use Rattle.scheme_core.proofs.together.answers.Given as goal

abbrev pub invariant-claims : goal.invariant-claims
invariant-claims g l = record {
  answered : l.answers.items ≡ map (accepts_claim g.S.Verify.rules) (take l.claim-index l.claims);
  left : drop l.next l.made ≡ map open_signature_of (filter needs_digest (drop l.claim-index l.claims));
}
