use Rattle.std.proofs.Common.{◌≡◌, ◌*◌, length, take}
use Rattle.sha2.specs.Sha256.{digest_bytes}
use Rattle.sha_lanes.proofs.storing.digest_in.Given as goal

abbrev pub invariant-words : goal.invariant-words
invariant-words s = (length s.digest ≡ 32) × (take (4 * s.i) s.digest ≡ digest_bytes s.words s.i)
