use Rattle.std.proofs.Common.{◌≡◌, drop, map, take}
use Rattle.std.specs.List.{flat_map}
use Rattle.sha_lanes.specs.Message.{bytes_of}
use Rattle.scheme_core.specs.OpenClaims.{front_of, signed_bytes}
use Rattle.scheme_core.proofs.digests.messages.Given as goal

abbrev pub invariant-claims : goal.invariant-claims
invariant-claims l = record {
  left : l.left ≡ flat_map front_of (drop l.claim-index l.claims);
  put : map bytes_of l.messages.items ≡ map signed_bytes (take l.claim-index l.claims);
}
