-- What the laws of machines say, at whatever states S, messages M and O, rows R and causes to refuse E there are.
use Rattle.std.specs.Prelude.{◌≡◌, ℕ, suc, List, [], ◌++◌, flat_map}
use Rattle.std.specs.List.{concat}
use Rattle.session_rules.specs.Machine.{Ends, Refuses, Machine}
use Rattle.session_rules.specs.Reading.{Stand, Waits, Done, More, BadMessage, Refusal, start, run, read, then, out, got, ending_of, ending}
use Rattle.session_rules.specs.Endings.{StandsBefore, IsBadAt, Steps}
use Rattle.session_rules.specs.Rounds.{IsFront, IsOver, rounds, Meet}
use Rattle.session_rules.specs.Messages.{ArePart, taken, CanReadAll, hear, dialogue, CanTalk, IsDialogue}

-- ---- bytes

module _ (S M O R E : Type 0) where
  -- of bytes and more behind them the same comes as of these and then of those
  abbrev pub TwoPiecesReadAlike : Type 0
  TwoPiecesReadAlike = (a : Machine S M O R E) (q : Stand S E) (bytes more : List ℕ)
      → read a q (bytes ++ more) ≡ then (read a q bytes) (read a (read a q bytes).stand more)

  -- in whatever pieces bytes come, the same comes of them
  abbrev pub PiecesReadAlike : Type 0
  PiecesReadAlike = (a : Machine S M O R E) (q : Stand S E) (pieces : List (List ℕ))
      → run (read a) q pieces ≡ read a q (concat pieces)

  -- more bytes take back nothing that was written
  abbrev pub OutGrows : Type 0
  OutGrows = (a : Machine S M O R E) (bytes more : List ℕ) → IsFront (out a bytes) (out a (bytes ++ more))

  -- more bytes take back no row that was taken
  abbrev pub GotGrows : Type 0
  GotGrows = (a : Machine S M O R E) (bytes more : List ℕ) → IsFront (got a bytes) (got a (bytes ++ more))

  -- a machine that has ended or refused writes no more
  abbrev pub OverWritesNoMore : Type 0
  OverWritesNoMore = (a : Machine S M O R E) (bytes more : List ℕ)
      → IsOver (ending a bytes) → out a (bytes ++ more) ≡ out a bytes

  -- and takes no more rows
  abbrev pub OverTakesNoMore : Type 0
  OverTakesNoMore = (a : Machine S M O R E) (bytes more : List ℕ)
      → IsOver (ending a bytes) → got a (bytes ++ more) ≡ got a bytes

  -- and its end stays the same
  abbrev pub OverStaysOver : Type 0
  OverStaysOver = (a : Machine S M O R E) (bytes more : List ℕ)
      → IsOver (ending a bytes) → ending a (bytes ++ more) ≡ ending a bytes

  -- while bytes are a part of a message nothing is written to them
  abbrev pub PartsWriteNothing : Type 0
  PartsWriteNothing = (a : Machine S M O R E) (bytes part : List ℕ) (s : S) (at : ℕ) (held : List ℕ)
      → (read a (start a) bytes).stand ≡ Waits s at held → ArePart (a.sees s) held part
      → out a (bytes ++ part) ≡ out a bytes

  -- no row is taken by them
  abbrev pub PartsTakeNothing : Type 0
  PartsTakeNothing = (a : Machine S M O R E) (bytes part : List ℕ) (s : S) (at : ℕ) (held : List ℕ)
      → (read a (start a) bytes).stand ≡ Waits s at held → ArePart (a.sees s) held part
      → got a (bytes ++ part) ≡ got a bytes

  -- and more is due
  abbrev pub PartsEndNothing : Type 0
  PartsEndNothing = (a : Machine S M O R E) (bytes part : List ℕ) (s : S) (at : ℕ) (held : List ℕ)
      → (read a (start a) bytes).stand ≡ Waits s at held → ArePart (a.sees s) held part
      → ending a (bytes ++ part) ≡ More

  -- ---- how a machine ends

  -- where more is due the machine waits for a message that begins at an offset
  abbrev pub MoreWaits : Type 0
  MoreWaits = (a : Machine S M O R E) (bytes : List ℕ) → ending a bytes ≡ More
      → (s : S) × (at : ℕ) × (held : List ℕ) × StandsBefore a bytes s at held

  -- a machine that is done was ended by a message
  abbrev pub DoneByMessage : Type 0
  DoneByMessage = (a : Machine S M O R E) (bytes : List ℕ) → ending a bytes ≡ Done
      → (says : List O) × (rows : List R) × Steps a bytes (Ends says rows)

  -- where it tells a bad message at an offset, the bytes from there on are none
  abbrev pub BadByMessage : Type 0
  BadByMessage = (a : Machine S M O R E) (bytes : List ℕ) (at : ℕ) → ending a bytes ≡ BadMessage at → IsBadAt a bytes at

  -- where it refuses, it refuses a message by that cause
  abbrev pub RefusedByMessage : Type 0
  RefusedByMessage = (a : Machine S M O R E) (bytes : List ℕ) (cause : E)
      → ending a bytes ≡ Refusal cause → Steps a bytes (Refuses cause)

  -- ---- messages

  -- messages of which the machine can read each by its bytes it reads one after the other where their bytes are joined
  abbrev pub ReadsMessages : Type 0
  ReadsMessages = (a : Machine S M O R E) (spelling : M → List ℕ) (s : S) (at : ℕ) (ms : List M)
      → CanReadAll a spelling (Waits s at []) ms
      → read a (Waits s at []) (flat_map spelling ms) ≡ run (taken a spelling) (Waits s at []) ms

-- ---- two machines that each read what the other writes

module _ (S M O R E S2 M2 O2 R2 E2 : Type 0) where
  -- after each round both have written a front of all that they write
  abbrev pub RoundsWriteFronts : Type 0
  RoundsWriteFronts = (a : Machine S M O R E) (b : Machine S2 M2 O2 R2 E2) (by_a by_b : List ℕ) (n : ℕ)
      → Meet (out a) (out b) by_a by_b
      → IsFront (rounds (out a) (out b) n).0 by_a × IsFront (rounds (out a) (out b) n).1 by_b

  -- where the first has ended in a round, the next round gives all that they write
  abbrev pub FirstOverSettles : Type 0
  FirstOverSettles = (a : Machine S M O R E) (b : Machine S2 M2 O2 R2 E2) (by_a by_b : List ℕ) (n : ℕ)
      → Meet (out a) (out b) by_a by_b → IsOver (ending a (rounds (out a) (out b) n).1)
      → (by_a, by_b) ≡ rounds (out a) (out b) (suc n)

  -- where the second has ended in a round, the next round gives all that they write
  abbrev pub SecondOverSettles : Type 0
  SecondOverSettles = (a : Machine S M O R E) (b : Machine S2 M2 O2 R2 E2) (by_a by_b : List ℕ) (n : ℕ)
      → Meet (out a) (out b) by_a by_b → IsOver (ending b (rounds (out a) (out b) n).0)
      → (by_a, by_b) ≡ rounds (out a) (out b) (suc n)

  -- where the first has ended in a round, what the next round gives is what two such machines write
  abbrev pub OverRoundsMeet : Type 0
  OverRoundsMeet = (a : Machine S M O R E) (b : Machine S2 M2 O2 R2 E2) (n : ℕ)
      → IsOver (ending a (rounds (out a) (out b) n).1)
      → Meet (out a) (out b) (rounds (out a) (out b) (suc n)).0 (rounds (out a) (out b) (suc n)).1

-- ---- two machines that read each other's messages

module _ (S M O R E S2 R2 E2 : Type 0) where
  -- what they write is what they say, round by round
  abbrev pub RoundsSpellDialogue : Type 0
  RoundsSpellDialogue = (a : Machine S M O R E) (b : Machine S2 O M R2 E2) (n : ℕ) → CanTalk a b n
      → rounds (out a) (out b) (suc n)
      ≡ (flat_map a.spelling (dialogue a b (suc n)).0, flat_map b.spelling (dialogue a b (suc n)).1)

  -- where the first has ended in what was said, this is all that they write, whatever it is
  abbrev pub OverIsDialogue : Type 0
  OverIsDialogue = (a : Machine S M O R E) (b : Machine S2 O M R2 E2) (n : ℕ) (by_a by_b : List ℕ) → CanTalk a b n
      → IsOver (ending_of (hear a b.spelling (dialogue a b n).1).stand) → Meet (out a) (out b) by_a by_b
      → IsDialogue a b n by_a by_b

  -- and so there is such a pair
  abbrev pub OverDialogueMeets : Type 0
  OverDialogueMeets = (a : Machine S M O R E) (b : Machine S2 O M R2 E2) (n : ℕ) → CanTalk a b n
      → IsOver (ending_of (hear a b.spelling (dialogue a b n).1).stand)
      → Meet (out a) (out b)
      (flat_map a.spelling (dialogue a b (suc n)).0) (flat_map b.spelling (dialogue a b (suc n)).1)
