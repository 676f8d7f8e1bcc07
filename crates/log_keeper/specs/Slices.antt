-- Slices of a log.
use Rattle.std.specs.Prelude.{◌<◌, ◌≤◌, ◌^◌, List, length, map}
use Rattle.std.specs.List.{AllByRecursion}
use Rattle.willow_entry.specs.declared.row.LogRow.{LogRow}
use Rattle.willow_entry.specs.Frame.{HasFrame}
use Rattle.willow_entry.specs.Row.{RowValue}
use Rattle.row_stream.specs.Streams.{IsStreamRow}
use Rattle.log_keeper.specs.LogFile.{record_body}

-- the rows of a slice
abbrev pub logged_rows : {R : Type 0} → (R → RowValue) → List (LogRow R) → List RowValue
logged_rows value slice = map (λ logged. value logged.row) slice

-- each body fits a frame
abbrev pub AreFramed : List RowValue → Type 0
AreFramed = AllByRecursion HasFrame

-- a slice of at most 256 rows has fewer than 2^26 bytes
abbrev pub AreShort : (RowValue → Type 0) → Type 0
AreShort IsRow = (rows : List RowValue) → AllByRecursion (IsStreamRow IsRow) rows → length rows ≤ 256 → length (record_body rows) < 2 ^ 26
