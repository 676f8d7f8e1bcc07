use Rattle.std.proofs.Common.{◌≡◌, length}
use Rattle.sha_lanes.specs.Windows.{AreHashed}
use Rattle.sha_lanes.proofs.messages.sha256_all.Given as goal

abbrev pub invariant-messages : goal.invariant-messages
invariant-messages s = AreHashed s.messages s.digests s.hashed s.first × (length s.hashed ≡ 64)
