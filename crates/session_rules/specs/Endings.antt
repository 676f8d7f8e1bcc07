-- Where a machine ends: each end is that of one message, which begins at an offset.
use Rattle.std.specs.Prelude.{◌≡◌, ℕ, List, [], ◌++◌, length}
use Rattle.session_rules.specs.Machine.{Whole, Wrong, Step, Machine}
use Rattle.session_rules.specs.Reading.{Waits, start, read}

-- in front of the last of some bytes the machine waits for a message that begins at this offset, with nothing held
pub record StandsBefore {S M O R E : Type 0} (a : Machine S M O R E) (bytes : List ℕ) (s : S) (at : ℕ) (last : List ℕ) : Type 0 where
  pub before : List ℕ
  pub joined : bytes ≡ before ++ last
  pub waits : (read a (start a) before).stand ≡ Waits s at []
  pub offset : length before ≡ at

-- the bytes from the offset on are no message
pub record IsBadAt {S M O R E : Type 0} (a : Machine S M O R E) (bytes : List ℕ) (at : ℕ) : Type 0 where
  pub state : S
  pub bad : List ℕ
  pub behind : List ℕ
  pub stands : StandsBefore a bytes state at (bad ++ behind)
  pub wrong : a.sees state bad ≡ Wrong

-- a message stands there whose step is this
pub record Steps {S M O R E : Type 0} (a : Machine S M O R E) (bytes : List ℕ) (step : Step S O R E) : Type 0 where
  pub state : S
  pub at : ℕ
  pub message : M
  pub message_bytes : List ℕ
  pub behind : List ℕ
  pub stands : StandsBefore a bytes state at (message_bytes ++ behind)
  pub whole : a.sees state message_bytes ≡ Whole message
  pub comes : a.step state message ≡ step
