use Rattle.std.proofs.Common.{◌≡◌, take}
use Rattle.std.specs.List.{flat_map}
use Rattle.scheme_core.specs.OpenClaims.{front_of}
use Rattle.scheme_core.proofs.digests.fronts.Given as goal

abbrev pub invariant-claims : goal.invariant-claims
invariant-claims l = l.fronts.items ≡ flat_map front_of (take l.claim-index l.claims)
