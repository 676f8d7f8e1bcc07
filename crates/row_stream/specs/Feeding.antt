-- A stream that is fed in pieces: its state, and what an answer says of the bytes and of the state behind it.
use Rattle.std.specs.Prelude.{◌≡◌, ℕ, ◌+◌, ◌<◌, ◌⊎◌, List, [], ◌++◌, length, map, Option, Some, None, Result, Ok, Err}
use Rattle.std.specs.Global.{Vec}
use Rattle.spelling.specs.declared.ending.End.{End}
use Rattle.spelling.specs.declared.ending.End.TheVariants.{Refused, NoMemory}
use Rattle.willow_entry.specs.Row.{RowValue}
use Rattle.row_stream.specs.declared.refusal.StreamRefusal.{StreamRefusal}
use Rattle.row_stream.specs.declared.refusal.StreamRefusal.TheVariants.{CutShort}
use Rattle.row_stream.specs.Streams.{frames_of, IsStream, GoesWrong}

-- the bytes of the frame that has begun, the offset of its first byte, and why the stream is refused, if it is
pub record StreamState : Type 0 where
  pub begun : List ℕ
  pub at : ℕ
  pub refusal : Option StreamRefusal

-- the state of a stream of which nothing was fed
abbrev pub nothing_fed : StreamState
nothing_fed = record { begun = []; at = 0; refusal = None }

-- what contracts see of an answer
abbrev pub handed : {R E : Type 0} → (R → RowValue) → Result (Vec R) E → Result (List RowValue) E
handed value (Ok rows) = Ok (map value rows.items)
handed value (Err e) = Err e

-- the rows that became whole are handed out, and what is left behind their frames has begun
pub record HandsOutRows (IsRow : RowValue → Type 0) (old new : StreamState) (piece : List ℕ) (rows : List RowValue) : Type 0 where
  pub unrefused : old.refusal ≡ None
  pub goes_on : new.refusal ≡ None
  pub stream : IsStream IsRow old.at (old.begun ++ piece) rows new.begun None
  pub moved_on : new.at ≡ old.at + length (frames_of rows)
  -- what has begun ends where the piece does
  pub none_lost : new.at + length new.begun ≡ old.at + length old.begun + length piece

-- with this piece the stream goes wrong
pub record Breaks (IsRow : RowValue → Type 0) (old : StreamState) (piece : List ℕ) (refusal : StreamRefusal) : Type 0 where
  pub unrefused : old.refusal ≡ None
  pub wrong : GoesWrong IsRow old.at (old.begun ++ piece) refusal

-- How a piece is answered, and the state behind it. A stream that is refused answers its refusal, and stays so; one that
-- is not stays as it was without memory.
abbrev pub Feeds : (RowValue → Type 0) → StreamState → StreamState → List ℕ → Result (List RowValue) (End StreamRefusal) → Type 0
Feeds IsRow old new piece (Ok rows) = HandsOutRows IsRow old new piece rows
Feeds IsRow old new piece (Err (Refused refusal)) = (new.refusal ≡ Some refusal) × ((old.refusal ≡ Some refusal) ⊎ Breaks IsRow old piece refusal)
Feeds IsRow old new piece (Err NoMemory) = (old.refusal ≡ None) × (new ≡ old)

-- a frame has begun, and the stream ends inside it
pub record IsCut (state : StreamState) (refusal : StreamRefusal) : Type 0 where
  pub unrefused : state.refusal ≡ None
  pub some_begun : 0 < length state.begun
  pub told : refusal ≡ CutShort state.at

-- how a stream ends: with its last frame, with the refusal that it has, or inside a frame
abbrev pub Finishes : StreamState → Result (Unit {0}) StreamRefusal → Type 0
Finishes state (Ok u) = (state.refusal ≡ None) × (state.begun ≡ [])
Finishes state (Err refusal) = (state.refusal ≡ Some refusal) ⊎ IsCut state refusal
