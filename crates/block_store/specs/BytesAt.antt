-- The strings of rows that are told by their positions.
use Rattle.std.specs.Prelude.{ℕ, List, [], Option, Some, None, slice_get}
use Rattle.willow_entry.specs.Row.{RowValue}
use Rattle.block_store.specs.Fingerprint.{row_bytes}

-- the two strings of a row, where there is one
abbrev pub row_bytes_if : Option RowValue → List ℕ × List ℕ
row_bytes_if None = ([], [])
row_bytes_if (Some row) = row_bytes row

-- the two strings of the row at a position
abbrev pub row_bytes_at : List RowValue → ℕ → List ℕ × List ℕ
row_bytes_at rows at = row_bytes_if (slice_get rows at)
