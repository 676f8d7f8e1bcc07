-- How a file is read, step by step.
use Rattle.std.specs.Prelude.{◌≡◌, ◌≢◌, ℕ, ◌+◌, ◌<◌, ◌≤◌, ◌^◌, Bool, true, false, List, [], ◌∷◌, ◌++◌, length, map, Option, Some, None, Result, Ok, Err}
use Rattle.std.specs.List.{AllByRecursion, flat_map}
use Rattle.std.specs.Global.{Vec}
use Rattle.std.specs.Int.{w32, to_be_bytes}
use Rattle.spelling.specs.Spelling.{text_spelling}
use Rattle.spelling.specs.declared.ending.End.{End}
use Rattle.spelling.specs.declared.ending.End.TheVariants.{Refused, NoMemory}
use Rattle.willow_entry.specs.Row.{RowValue}
use Rattle.row_stream.specs.Streams.{frames_of, IsStreamRow}
use Rattle.log_keeper.specs.declared.refusal.KeepRefusal.{KeepRefusal}
use Rattle.log_keeper.specs.declared.refusal.KeepRefusal.TheVariants.{ReadFailed, WriteFailed, BadLog}
use Rattle.log_keeper.specs.BadLogs.{IsBadGate, IsBadLog, IsBadFile}
use Rattle.log_keeper.specs.LogFile.{open_record, IsShut, IsRecord, HoldsRowsTo, HoldsNoLog}

-- a length and so many bytes stand in front, and these behind them
pub record IsSplitOff (bytes frames behind : List ℕ) : Type 0 where
  pub parts : bytes ≡ text_spelling (to_be_bytes w32) frames ++ behind
  pub within : length frames < 2 ^ 32

abbrev pub SplitsOff : {X : Type 0} → (X → List ℕ) → (X → List ℕ) → List ℕ → Option X → Type 0
SplitsOff frames behind bytes (Some x) = IsSplitOff bytes (frames x) (behind x)
SplitsOff frames behind bytes None = (front rest : List ℕ) → IsSplitOff bytes front rest → ⊥

-- an open gate stands in front, and behind it what may be a record
pub record IsOpenRecord (bytes frames behind : List ℕ) : Type 0 where
  pub after : List ℕ
  pub parts : bytes ≡ 1 ∷ after
  pub split : IsSplitOff after frames behind

-- nothing stands there, or an open gate before what is too short for the length in front of it
abbrev pub IsCutShort : List ℕ → Type 0
IsCutShort [] = Unit {0}
IsCutShort (gate ∷ bytes) = (gate ≡ 1) × ((front rest : List ℕ) → IsSplitOff bytes front rest → ⊥)

-- what stands where a gate is due
abbrev pub TellsGate : {X E : Type 0} → (X → List ℕ) → (X → List ℕ) → List ℕ → Result (Option X) E → Type 0
TellsGate frames behind bytes (Ok (Some x)) = IsOpenRecord bytes (frames x) (behind x)
TellsGate frames behind bytes (Ok None) = IsShut bytes
TellsGate frames behind bytes (Err e) = IsCutShort bytes

-- the rows whose frames these are, or that they are none's
abbrev pub ReadsRowFrames : {R : Type 0} → (RowValue → Type 0) → (R → RowValue) → List ℕ → Option (Vec R) → Type 0
ReadsRowFrames IsRow value bytes (Some rows) = AllByRecursion (IsStreamRow IsRow) (map value rows.items) × (bytes ≡ frames_of (map value rows.items))
ReadsRowFrames IsRow value bytes None = (rows : List RowValue) → AllByRecursion (IsStreamRow IsRow) rows → bytes ≡ frames_of rows → ⊥

-- rows whose frames these are were put behind the others; or they are no rows' frames
abbrev pub AppendsRowFrames : {R : Type 0} → (RowValue → Type 0) → (R → RowValue) → List ℕ → List R → List R → Bool → Type 0
AppendsRowFrames {R} IsRow value bytes old new true = (more : List R) × AllByRecursion (IsStreamRow IsRow) (map value more) × (bytes ≡ frames_of (map value more)) × (new ≡ old ++ more)
AppendsRowFrames IsRow value bytes old new false = (rows : List RowValue) → AllByRecursion (IsStreamRow IsRow) rows → bytes ≡ frames_of rows → ⊥

-- the bytes are open records that hold these rows, and behind them a closed gate, at `end` counted from `from`
pub record AreRecords (IsRow : RowValue → Type 0) (from : ℕ) (bytes : List ℕ) (rows : List RowValue) (end : ℕ) : Type 0 where
  pub records : List (List RowValue)
  pub gate : ℕ
  pub rest : List ℕ
  pub parts : bytes ≡ flat_map open_record records ++ gate ∷ rest
  pub closed : gate ≢ 1
  pub fit : AllByRecursion (IsRecord IsRow) records
  pub rows_are : rows ≡ flat_map (λ r. r) records
  pub place : end ≡ from + length (flat_map open_record records)

-- behind some open records the bytes go wrong
pub record RecordsGoWrong (IsRow : RowValue → Type 0) (from : ℕ) (bytes : List ℕ) (at : ℕ) : Type 0 where
  pub records : List (List RowValue)
  pub left : List ℕ
  pub parts : bytes ≡ flat_map open_record records ++ left
  pub fit : AllByRecursion (IsRecord IsRow) records
  pub wrong : IsBadGate IsRow left
  pub place : at ≡ from + length (flat_map open_record records)

-- how the records of a log are read
abbrev pub ReadsRecords : {R : Type 0} → (RowValue → Type 0) → (R → RowValue) → ℕ → List ℕ → Result (Vec R × ℕ) (End ℕ) → Type 0
ReadsRecords IsRow value from bytes (Ok x) = AreRecords IsRow from bytes (map value x.0.items) x.1
ReadsRecords IsRow value from bytes (Err (Refused at)) = RecordsGoWrong IsRow from bytes at
ReadsRecords IsRow value from bytes (Err NoMemory) = Unit {0}

-- how bytes are read: no log, the rows of a log and the place of its closed gate, or where it goes wrong
abbrev pub ReadsLog : {R : Type 0} → (RowValue → Type 0) → (R → RowValue) → List ℕ → List ℕ → Result (Option (Vec R × ℕ)) (End ℕ) → Type 0
ReadsLog IsRow value namespace bytes (Ok None) = HoldsNoLog bytes
ReadsLog IsRow value namespace bytes (Ok (Some log)) = HoldsRowsTo IsRow namespace bytes (map value log.0.items) log.1
ReadsLog IsRow value namespace bytes (Err (Refused at)) = IsBadLog IsRow namespace bytes at
ReadsLog IsRow value namespace bytes (Err NoMemory) = Unit {0}

-- how a file is read, which is not too long where it holds no log or a log
abbrev pub ReadsFile : {R : Type 0} → (RowValue → Type 0) → (R → RowValue) → List ℕ → Result (Option (Vec R × ℕ)) (End KeepRefusal) → List ℕ → Type 0
ReadsFile IsRow value namespace (Ok None) bytes = (length bytes < 2 ^ 62) × HoldsNoLog bytes
ReadsFile IsRow value namespace (Ok (Some log)) bytes = (length bytes < 2 ^ 62) × HoldsRowsTo IsRow namespace bytes (map value log.0.items) log.1
ReadsFile IsRow value namespace (Err (Refused ReadFailed)) bytes = Unit {0}
ReadsFile IsRow value namespace (Err (Refused WriteFailed)) bytes = Unit {0}
ReadsFile IsRow value namespace (Err (Refused (BadLog at))) bytes = IsBadFile IsRow namespace at bytes
ReadsFile IsRow value namespace (Err NoMemory) bytes = Unit {0}

-- the file has 2^62 bytes or more, which is bad at that place
abbrev pub IsTooLong : ℕ → List ℕ → Type 0
IsTooLong at bytes = (2 ^ 62 ≤ length bytes) × (at ≡ 2 ^ 62)

-- the refusal is a bad log, or there is no memory
abbrev pub IsNoFault : End KeepRefusal → Type 0
IsNoFault (Refused ReadFailed) = ⊥
IsNoFault (Refused WriteFailed) = ⊥
IsNoFault (Refused (BadLog at)) = Unit {0}
IsNoFault NoMemory = Unit {0}
