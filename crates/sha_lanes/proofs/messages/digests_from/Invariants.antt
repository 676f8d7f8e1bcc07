use Rattle.std.proofs.Common.{◌≡◌, ℕ, ◌<◌}
use Rattle.sha2.specs.Sha256.{hash_after, initial_hash_256, padded_message}
use Rattle.sha_lanes.specs.Lanes.{hash_in}
use Rattle.sha_lanes.specs.Message.{bytes_of}
use Rattle.sha_lanes.specs.Windows.{message_at}
use Rattle.sha_lanes.proofs.messages.digests_from.Given as goal

abbrev pub invariant-numbers : goal.invariant-numbers
invariant-numbers s = (l : ℕ) → l < 4
    → hash_in s.state l ≡ hash_after initial_hash_256 (padded_message (bytes_of (message_at s.messages l))) s.number
