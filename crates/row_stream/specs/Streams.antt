-- Streams of rows in frames: the rows at the front, what stands behind their frames, and why that is refused, if it is.
use Rattle.std.specs.Prelude.{◌≡◌, ℕ, ◌+◌, List, ◌++◌, length, Option, Some, None}
use Rattle.std.specs.List.{AllByRecursion, flat_map}
use Rattle.willow_entry.specs.Row.{RowValue}
use Rattle.willow_entry.specs.Frame.{row_frame, HasFrame}
use Rattle.row_stream.specs.declared.refusal.StreamRefusal.{StreamRefusal}
use Rattle.row_stream.specs.declared.refusal.StreamRefusal.TheVariants.{BadFrame, FrameTooLong, CutShort}
use Rattle.row_stream.specs.Places.{IsUnfinished, IsTooLong, IsBadFrame}

-- a row of the grammar of bodies that a frame can carry
pub record IsStreamRow (IsRow : RowValue → Type 0) (r : RowValue) : Type 0 where
  pub fits : IsRow r
  pub framed : HasFrame r

-- the frames of rows, one after the other
abbrev pub frames_of : List RowValue → List ℕ
frames_of = flat_map row_frame

-- What stands behind the last row's frame, at this offset: nothing, or a frame that is not whole; or what is refused,
-- at the offset of its length field.
abbrev pub IsJudged : (RowValue → Type 0) → ℕ → List ℕ → Option StreamRefusal → Type 0
IsJudged IsRow here left None = IsUnfinished left
IsJudged IsRow here left (Some (BadFrame at)) = IsBadFrame IsRow left × (at ≡ here)
IsJudged IsRow here left (Some (FrameTooLong at)) = IsTooLong left × (at ≡ here)
IsJudged IsRow here left (Some (CutShort at)) = ⊥

-- The bytes, of which the first has this offset, are the frames of these rows, and what is left behind them.
pub record IsStream (IsRow : RowValue → Type 0) (from : ℕ) (bytes : List ℕ) (rows : List RowValue) (left : List ℕ) (refusal : Option StreamRefusal) : Type 0 where
  pub fit : AllByRecursion (IsStreamRow IsRow) rows
  pub parts : bytes ≡ frames_of rows ++ left
  pub judged : IsJudged IsRow (from + length (frames_of rows)) left refusal

-- bytes that go wrong: some rows in front, and what is refused behind them
pub record GoesWrong (IsRow : RowValue → Type 0) (from : ℕ) (bytes : List ℕ) (refusal : StreamRefusal) : Type 0 where
  pub rows : List RowValue
  pub left : List ℕ
  pub stream : IsStream IsRow from bytes rows left (Some refusal)
