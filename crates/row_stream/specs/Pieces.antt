-- Any cutting of a stream into pieces: what was taken and handed out, and that the cutting does not matter.
use Rattle.std.specs.Prelude.{◌≡◌, ℕ, List, [], ◌∷◌, ◌++◌, length, Option, Some, None, Result, Ok, Err}
use Rattle.std.specs.List.{flat_map}
use Rattle.spelling.specs.declared.ending.End.{End}
use Rattle.spelling.specs.declared.ending.End.TheVariants.{Refused, NoMemory}
use Rattle.willow_entry.specs.Row.{RowValue}
use Rattle.row_stream.specs.declared.refusal.StreamRefusal.{StreamRefusal}
use Rattle.row_stream.specs.Streams.{frames_of, IsStream}
use Rattle.row_stream.specs.Feeding.{StreamState, nothing_fed, Feeds}

-- a piece that was fed, and what was answered
pub record Fed : Type 0 where
  pub piece : List ℕ
  pub answer : Result (List RowValue) (End StreamRefusal)

-- the pieces are fed one after the other, each to the stream as the one before left it
abbrev pub Runs : (RowValue → Type 0) → StreamState → List Fed → StreamState → Type 0
Runs IsRow old [] new = new ≡ old
Runs IsRow old (f ∷ more) new = (between : StreamState) × Feeds IsRow old between f.piece f.answer × Runs IsRow between more new

-- a piece for which there was no memory is not taken, any other is
abbrev pub taken_of : List ℕ → Result (List RowValue) (End StreamRefusal) → List ℕ
taken_of piece (Ok rows) = piece
taken_of piece (Err (Refused refusal)) = piece
taken_of piece (Err NoMemory) = []

-- the rows of an answer
abbrev pub rows_answered : Result (List RowValue) (End StreamRefusal) → List RowValue
rows_answered (Ok rows) = rows
rows_answered (Err e) = []

-- all bytes that were taken, and all rows that were handed out
abbrev pub all_taken : List Fed → List ℕ
all_taken = flat_map (λ f. taken_of f.piece f.answer)

abbrev pub all_rows : List Fed → List RowValue
all_rows = flat_map (λ f. rows_answered f.answer)

-- the rows are the first of those at the front of bytes that go wrong
pub record AreFirst (IsRow : RowValue → Type 0) (bytes : List ℕ) (rows : List RowValue) (refusal : StreamRefusal) : Type 0 where
  pub more : List RowValue
  pub left : List ℕ
  pub stream : IsStream IsRow 0 bytes (rows ++ more) left (Some refusal)

-- Over all bytes taken, the rows handed out are all whole rows so far where nothing is refused, and the first rows of
-- the stream where it is.
pub record HandsOutAll (IsRow : RowValue → Type 0) (bytes : List ℕ) (rows : List RowValue) (state : StreamState) : Type 0 where
  pub unrefused : state.refusal ≡ None → IsStream IsRow 0 bytes rows state.begun None × (state.at ≡ length (frames_of rows))
  pub refused : (refusal : StreamRefusal) → state.refusal ≡ Some refusal → AreFirst IsRow bytes rows refusal

-- so it is, however the stream is cut
abbrev pub HoldsForAnyCutting : (RowValue → Type 0) → Type 0
HoldsForAnyCutting IsRow = (fed : List Fed) (state : StreamState) → Runs IsRow nothing_fed fed state → HandsOutAll IsRow (all_taken fed) (all_rows fed) state

-- bytes have one reading at most
abbrev pub HaveOneStream : (RowValue → Type 0) → Type 0
HaveOneStream IsRow = (from : ℕ) (bytes : List ℕ) (rows others : List RowValue) (left rest : List ℕ) (refusal because : Option StreamRefusal)
    → IsStream IsRow from bytes rows left refusal → IsStream IsRow from bytes others rest because → (rows ≡ others) × (left ≡ rest) × (refusal ≡ because)

-- two streams end alike: with the same refusal, or with the same rows and the same frame begun
pub record EndAlike (rows others : List RowValue) (s t : StreamState) : Type 0 where
  pub same_refusal : s.refusal ≡ t.refusal
  pub same_rows : s.refusal ≡ None → rows ≡ others
  pub same_state : s.refusal ≡ None → s ≡ t

-- the same bytes in other pieces end alike
abbrev pub EndAlikeInAnyPieces : (RowValue → Type 0) → Type 0
EndAlikeInAnyPieces IsRow = (fed others : List Fed) (s t : StreamState) → Runs IsRow nothing_fed fed s → Runs IsRow nothing_fed others t → all_taken fed ≡ all_taken others
    → EndAlike (all_rows fed) (all_rows others) s t
