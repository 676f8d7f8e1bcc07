-- What may stand at a place of a stream where no row's frame stands.
use Rattle.std.specs.Prelude.{ℕ, ◌+◌, ◌<◌, ◌≤◌, List, length, take, drop, None}
use Rattle.std.specs.Int.{w32, from_be_bytes}
use Rattle.willow_entry.specs.Row.{RowValue}
use Rattle.willow_entry.specs.RowBody.{ReadsBody}
use Rattle.willow_entry.specs.declared.entry_codec.TheConstants.{LEAST_ENTRY}
use Rattle.willow_entry.specs.declared.frame.TheConstants.{MAX_FRAME}

-- the number that the first four bytes spell, the highest byte first
unfoldable pub length_told : List ℕ → ℕ
length_told left = from_be_bytes w32 (take 4 left)

-- so many bytes behind these four
abbrev pub body_told : List ℕ → List ℕ
body_told left = take (length_told left) (drop 4 left)

-- Nothing; or a frame that has begun and is not whole: where its length is there, a frame may be so long.
abbrev pub IsUnfinished : List ℕ → Type 0
IsUnfinished left = 4 ≤ length left → (length_told left ≤ MAX_FRAME) × (length left < 4 + length_told left)

-- a length is there, and no frame is so long
pub record IsTooLong (left : List ℕ) : Type 0 where
  pub field_there : 4 ≤ length left
  pub beyond : MAX_FRAME < length_told left

-- a frame is whole, and its body is shorter than any entry
pub record IsTooShort (left : List ℕ) : Type 0 where
  pub field_there : 4 ≤ length left
  pub whole : 4 + length_told left ≤ length left
  pub below : length_told left < LEAST_ENTRY

-- a frame's length and all of its body are there, and the body is no row's
pub record IsBadFrame (IsRow : RowValue → Type 0) (left : List ℕ) : Type 0 where
  pub field_there : 4 ≤ length left
  pub within : length_told left ≤ MAX_FRAME
  pub whole : 4 + length_told left ≤ length left
  pub no_row : ReadsBody IsRow (body_told left) None
