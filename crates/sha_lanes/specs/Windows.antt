-- Messages of a list that are hashed, in any order.
use Rattle.std.specs.Prelude.{◌≡◌, ℕ, ◌+◌, ◌%◌, ◌<◌, ◌≤◌, Bool, false, IsTrue, List, [], length, slice_index_or}
use Rattle.sha_lanes.specs.declared.message.Message.{Message}
use Rattle.sha_lanes.specs.Message.{block_count, bytes_of, digest_of}

-- the message at a place of a list
abbrev pub message_at : List Message → ℕ → Message
message_at messages k = slice_index_or messages k (record { front = record { ref_ptr = (0, 0); now = [] }; rest = record { ref_ptr = (0, 0); now = [] } })

-- The digest at a place of a list is that of the message there.
abbrev pub IsHashed : List Message → List (List ℕ) → ℕ → Type 0
IsHashed messages digests k = slice_index_or digests k [] ≡ digest_of (message_at messages k)

-- A place of a list is one of 64 from the first one on, and the message there has as many blocks as the first.
pub record IsBeside (messages : List Message) (first place : ℕ) : Type 0 where
  pub from : first ≤ place
  pub near : place < first + 64
  pub in_list : place < length messages
  pub alike : block_count (bytes_of (message_at messages place)) ≡ block_count (bytes_of (message_at messages first))

-- The digests in front of the first place are those of the messages there, and so are the flagged ones from there on.
-- Flag k % 64 is that of place k, for the 64 places from the first one on.
pub record AreHashed (messages : List Message) (digests : List (List ℕ)) (flags : List Bool) (first : ℕ) : Type 0 where
  pub long : length digests ≡ length messages
  pub before : (k : ℕ) → k < first → IsHashed messages digests k
  pub ahead : (k : ℕ) → first ≤ k → k < first + 64 → k < length messages → IsTrue (slice_index_or flags (k % 64) false) → IsHashed messages digests k
