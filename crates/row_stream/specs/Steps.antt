-- The steps of reading a piece: a frame is split from the front, its row is read, and the next frame stands behind it.
use Rattle.std.specs.Prelude.{◌≡◌, ℕ, ◌+◌, ◌<◌, ◌≤◌, List, [], ◌∷◌, ◌++◌, length, map, Option, Some, None, Result, Ok, Err}
use Rattle.std.specs.Global.{Vec}
use Rattle.std.specs.Int.{w32, to_be_bytes}
use Rattle.spelling.specs.Spelling.{text_spelling}
use Rattle.spelling.specs.declared.ending.End.{End}
use Rattle.spelling.specs.declared.ending.End.TheVariants.{Refused, NoMemory}
use Rattle.spelling.specs.declared.input.Unread.{Unread}
use Rattle.spelling.specs.declared.input.Unread.TheVariants as unread
use Rattle.willow_entry.specs.Row.{RowValue}
use Rattle.willow_entry.specs.RowBody.{ReadsBody}
use Rattle.willow_entry.specs.declared.frame.TheConstants.{MAX_FRAME}
use Rattle.row_stream.specs.declared.refusal.StreamRefusal.{StreamRefusal}
use Rattle.row_stream.specs.declared.refusal.StreamRefusal.TheVariants.{BadFrame}
use Rattle.row_stream.specs.Places.{length_told, body_told, IsUnfinished, IsTooLong}
use Rattle.row_stream.specs.Streams.{frames_of, IsStream, GoesWrong}

-- a frame stands in front, with this body and these bytes behind it
pub record IsSplit (bytes body behind : List ℕ) : Type 0 where
  pub field_there : 4 ≤ length bytes
  pub within : length_told bytes ≤ MAX_FRAME
  pub whole : 4 + length_told bytes ≤ length bytes
  pub body_is : body ≡ body_told bytes
  pub parts : bytes ≡ text_spelling (to_be_bytes w32) body ++ behind

-- the frame in front, or why there is none; no memory is asked for
abbrev pub Splits : {X : Type 0} → (X → List ℕ) → (X → List ℕ) → List ℕ → Result X Unread → Type 0
Splits body behind bytes (Ok x) = IsSplit bytes (body x) (behind x)
Splits body behind bytes (Err unread.Part) = IsUnfinished bytes
Splits body behind bytes (Err unread.Wrong) = IsTooLong bytes
Splits body behind bytes (Err unread.NoMemory) = ⊥

-- why a body gives no row: it is none's, which is told at the frame's offset
abbrev pub GivesNoRow : (RowValue → Type 0) → ℕ → List ℕ → End StreamRefusal → Type 0
GivesNoRow IsRow here body (Refused refusal) = ReadsBody IsRow body None × (refusal ≡ BadFrame here)
GivesNoRow IsRow here body NoMemory = Unit {0}

-- the row of a body, or why there is none
abbrev pub ReadsRow : {R : Type 0} → (RowValue → Type 0) → (R → RowValue) → ℕ → List ℕ → Result R (End StreamRefusal) → Type 0
ReadsRow IsRow value here body (Ok row) = ReadsBody IsRow body (Some (value row))
ReadsRow IsRow value here body (Err end) = GivesNoRow IsRow here body end

-- the row of a body was added to the earlier ones
pub record AddsOne {R : Type 0} (IsRow : RowValue → Type 0) (value : R → RowValue) (body : List ℕ) (earlier rows : List R) : Type 0 where
  pub row : R
  pub added : rows ≡ earlier ++ row ∷ []
  pub reads : ReadsBody IsRow body (Some (value row))

-- the same, or why there is none
abbrev pub AddsRow : {R A : Type 0} → (RowValue → Type 0) → (R → RowValue) → ℕ → List ℕ → List R → List R → Result A (End StreamRefusal) → Type 0
AddsRow IsRow value here body earlier rows (Ok done) = AddsOne IsRow value body earlier rows
AddsRow IsRow value here body earlier rows (Err end) = GivesNoRow IsRow here body end

-- further rows were added to the earlier ones: those of all whole frames
pub record Adds {R : Type 0} (IsRow : RowValue → Type 0) (value : R → RowValue) (from : ℕ) (bytes : List ℕ) (earlier rows : List R) (here : ℕ) (left : List ℕ) : Type 0 where
  pub more : List R
  pub added : rows ≡ earlier ++ more
  pub stream : IsStream IsRow from bytes (map value more) left None
  pub place : here ≡ from + length (frames_of (map value more))

-- how the reading of the frames in front of bytes ends: with the offset of what is left behind them, and what that is;
-- or why it is refused
abbrev pub ReadsFrames : {R X : Type 0} → (RowValue → Type 0) → (R → RowValue) → (X → ℕ) → (X → List ℕ) → ℕ → List ℕ → List R → List R → Result X (End StreamRefusal) → Type 0
ReadsFrames IsRow value here left from bytes earlier rows (Ok x) = Adds IsRow value from bytes earlier rows (here x) (left x)
ReadsFrames IsRow value here left from bytes earlier rows (Err (Refused refusal)) = GoesWrong IsRow from bytes refusal
ReadsFrames IsRow value here left from bytes earlier rows (Err NoMemory) = Unit {0}

-- the same where the rows are answered, and what is left is kept
abbrev pub ReadsOn : {R : Type 0} → (RowValue → Type 0) → (R → RowValue) → ℕ → List ℕ → List R → List ℕ → Result (Vec R × ℕ) (End StreamRefusal) → Type 0
ReadsOn IsRow value from bytes earlier left (Ok x) = Adds IsRow value from bytes earlier x.0.items x.1 left
ReadsOn IsRow value from bytes earlier left (Err (Refused refusal)) = GoesWrong IsRow from bytes refusal
ReadsOn IsRow value from bytes earlier left (Err NoMemory) = Unit {0}

-- ---- the frame that has begun

-- how many bytes the frame in front has, where its length is there and a frame may be so long
abbrev pub TellsSize : List ℕ → Option ℕ → Type 0
TellsSize bytes (Some n) = (4 ≤ length bytes) × (length_told bytes ≤ MAX_FRAME) × (n ≡ 4 + length_told bytes)
TellsSize bytes None = 4 ≤ length bytes → MAX_FRAME < length_told bytes

-- bytes from the front of a piece were put behind those that had begun, until there were so many
pub record IsFilled (begun : List ℕ) (upto : ℕ) (piece filled rest : List ℕ) : Type 0 where
  pub parts : filled ++ rest ≡ begun ++ piece
  pub enough : 0 < length rest → upto ≤ length filled
  pub few : (most : ℕ) → length begun ≤ most → upto ≤ most → length filled ≤ most

-- Bytes from the front of a piece were put behind those that had begun, until a frame is whole, its length is one that
-- no frame has, or the piece is at its end; and no byte behind the frame.
pub record IsCompleted (begun piece filled rest : List ℕ) : Type 0 where
  pub parts : filled ++ rest ≡ begun ++ piece
  pub settled : 0 < length rest → IsUnfinished filled → ⊥
  pub alone : 4 ≤ length filled → length_told filled ≤ MAX_FRAME → length filled ≤ 4 + length_told filled
