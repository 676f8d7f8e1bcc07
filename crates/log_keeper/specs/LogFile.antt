-- Log files: a gate and a header, records behind it, each behind a gate of its own, and a closed gate that ends them. A
-- gate is open where it is 01.
use Rattle.std.specs.Prelude.{◌≡◌, ◌≢◌, ◌⊎◌, ℕ, ◌<◌, ◌≤◌, ◌^◌, List, [], ◌∷◌, ◌++◌, length, slice_index}
use Rattle.std.specs.List.{AllByRecursion, flat_map}
use Rattle.std.specs.Int.{w32, to_be_bytes}
use Rattle.spelling.specs.Spelling.{text_spelling}
use Rattle.willow_entry.specs.Row.{RowValue}
use Rattle.row_stream.specs.Streams.{frames_of, IsStreamRow}

-- 'WLG1'
abbrev pub log_mark : List ℕ
log_mark = 87 ∷ 76 ∷ 71 ∷ 49 ∷ []

-- the length of the rows' frames in four bytes, and the frames
abbrev pub record_body : List RowValue → List ℕ
record_body rows = text_spelling (to_be_bytes w32) (frames_of rows)

-- a record with its gate open
abbrev pub open_record : List RowValue → List ℕ
open_record rows = 1 ∷ record_body rows

-- rows of the grammar of bodies, whose frames are so few that a record can tell their length
pub record IsRecord (IsRow : RowValue → Type 0) (rows : List RowValue) : Type 0 where
  pub fit : AllByRecursion (IsStreamRow IsRow) rows
  pub within : length (frames_of rows) < 2 ^ 32

-- a log with these open records, up to the gate behind them
abbrev pub log_front : List ℕ → List (List RowValue) → List ℕ
log_front namespace records = (1 ∷ log_mark ++ namespace) ++ flat_map open_record records

-- The bytes are a log of the namespace whose open records hold these rows, up to the first closed gate, which stands at
-- `end`. What is behind it does not count.
pub record HoldsRowsTo (IsRow : RowValue → Type 0) (namespace bytes : List ℕ) (rows : List RowValue) (end : ℕ) : Type 0 where
  pub records : List (List RowValue)
  pub gate : ℕ
  pub rest : List ℕ
  pub parts : bytes ≡ log_front namespace records ++ gate ∷ rest
  pub closed : gate ≢ 1
  pub fit : AllByRecursion (IsRecord IsRow) records
  pub rows_are : rows ≡ flat_map (λ r. r) records
  pub place : end ≡ length (log_front namespace records)

-- the rows that a log holds
pub record HoldsRows (IsRow : RowValue → Type 0) (namespace bytes : List ℕ) (rows : List RowValue) : Type 0 where
  pub end : ℕ
  pub to : HoldsRowsTo IsRow namespace bytes rows end

-- a closed gate stands in front
pub record IsShut (bytes : List ℕ) : Type 0 where
  pub some : 1 ≤ length bytes
  pub closed : slice_index bytes 0 ≢ 1

-- a file that is too short for a log, or whose first gate is closed
abbrev pub HoldsNoLog : List ℕ → Type 0
HoldsNoLog bytes = (length bytes < 39) ⊎ (slice_index bytes 0 ≢ 1)

-- bytes hold rows in one way at most, with one place for the closed gate
abbrev pub HoldsOneWay : (RowValue → Type 0) → Type 0
HoldsOneWay IsRow = (namespace bytes : List ℕ) (rows others : List RowValue) (end place : ℕ) → HoldsRowsTo IsRow namespace bytes rows end → HoldsRowsTo IsRow namespace bytes others place → (rows ≡ others) × (end ≡ place)

-- ---- what is written

-- a log without rows: its header behind an open gate, and a closed gate
abbrev pub new_log : List ℕ → List ℕ
new_log namespace = log_front namespace [] ++ 0 ∷ []

-- the last record of a log: its gate, open, its rows, and a closed gate
abbrev pub last_record : List RowValue → List ℕ
last_record rows = open_record rows ++ 0 ∷ []
