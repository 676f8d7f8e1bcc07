-- Messages in two pieces.
use Rattle.std.specs.Prelude.{◌≡◌, ℕ, ◌/◌, List, ◌++◌, length, AllPairs}
use Rattle.sha2.specs.Sha256.{padded_message, sha256}
use Rattle.sha_lanes.specs.declared.message.Message.{Message}

-- the bytes of a message: its front, and the rest behind it
abbrev pub bytes_of : Message → List ℕ
bytes_of m = m.front.now ++ m.rest.now

-- how many blocks a message has with its padding
abbrev pub block_count : List ℕ → ℕ
block_count bytes = length (padded_message bytes) / 64

-- the digest of a message
abbrev pub digest_of : Message → List ℕ
digest_of m = sha256 (bytes_of m)

-- messages with equally many blocks, each two of them
abbrev pub AreAlike : List Message → Type 0
AreAlike messages = AllPairs (λ m n. block_count (bytes_of m) ≡ block_count (bytes_of n)) messages
