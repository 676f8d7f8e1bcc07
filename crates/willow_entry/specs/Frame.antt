-- Rows in frames: the form in which rows are stored in images and sent.
use Rattle.std.specs.Prelude.{ℕ, ◌≤◌, List, length}
use Rattle.std.specs.Int.{w32, to_be_bytes}
use Rattle.spelling.specs.Memory.{Behind}
use Rattle.spelling.specs.Reading.{number_up_to, text_at}
use Rattle.spelling.specs.Spelling.{text_spelling}
use Rattle.willow_entry.specs.EntryForm.{EntryAsks}
use Rattle.willow_entry.specs.Row.{RowValue}
use Rattle.willow_entry.specs.RowBody.{row_body}
use Rattle.willow_entry.specs.declared.frame.TheConstants.{MAX_FRAME}

-- the length of the body in four bytes, and the body
abbrev pub row_frame : RowValue → List ℕ
row_frame r = text_spelling (to_be_bytes w32) (row_body r)

-- the body fits a frame
abbrev pub HasFrame : RowValue → Type 0
HasFrame r = length (row_body r) ≤ MAX_FRAME

-- a frame that is read asks for memory where its body is whole and the entry in it asks
abbrev pub FrameAsks : List ℕ → Type 0
FrameAsks bytes = Behind (text_at (number_up_to w32 MAX_FRAME) bytes) (λ body rest. EntryAsks body)
