-- A machine that reads messages, whose bytes come a few at a time.
use Rattle.std.specs.Prelude.{ℕ, List}

-- what some bytes are: just one message, the beginning of one, or neither
pub data Seen (M : Type 0) : Type 0 where
  Whole : M → Seen M
  Part : Seen M
  Wrong : Seen M

-- what comes of a message: the machine goes on or has ended, with what it says and the rows that it takes, or it refuses
-- the message
pub data Step (S O R E : Type 0) : Type 0 where
  Goes : S → List O → List R → Step S O R E
  Ends : List O → List R → Step S O R E
  Refuses : E → Step S O R E

pub record Machine (S M O R E : Type 0) : Type 0 where
  -- what it says before it reads, and how it begins
  pub opening : List O
  pub first : S
  -- what some bytes are
  pub sees : S → List ℕ → Seen M
  -- what comes of a message
  pub step : S → M → Step S O R E
  -- the bytes of what it says
  pub spelling : O → List ℕ
