-- Files that hold a log which goes wrong, and where it does.
use Rattle.std.specs.Prelude.{◌≡◌, ◌≢◌, ◌⊎◌, ℕ, ◌<◌, ◌≤◌, ◌^◌, List, [], ◌∷◌, ◌++◌, length, take}
use Rattle.std.specs.List.{AllByRecursion}
use Rattle.willow_entry.specs.Row.{RowValue}
use Rattle.willow_path.specs.Key.{IsKey}
use Rattle.log_keeper.specs.LogFile.{log_mark, log_front, record_body, IsRecord, HoldsRowsTo, HoldsNoLog}

-- no record stands in front of the bytes
abbrev pub IsNoRecord : (RowValue → Type 0) → List ℕ → Type 0
IsNoRecord IsRow bytes = (rows : List RowValue) (rest : List ℕ) → IsRecord IsRow rows → bytes ≡ record_body rows ++ rest → ⊥

-- where a gate is due the file ends, or an open gate stands before what is no record
abbrev pub IsBadGate : (RowValue → Type 0) → List ℕ → Type 0
IsBadGate IsRow [] = Unit {0}
IsBadGate IsRow (gate ∷ bytes) = (gate ≡ 1) × IsNoRecord IsRow bytes

-- the file holds a log of the namespace, and behind some open records it goes wrong
pub record GoesWrongBehind (IsRow : RowValue → Type 0) (namespace bytes : List ℕ) (at : ℕ) : Type 0 where
  pub log : HoldsNoLog bytes → ⊥
  pub records : List (List RowValue)
  pub left : List ℕ
  pub parts : bytes ≡ log_front namespace records ++ left
  pub fit : AllByRecursion (IsRecord IsRow) records
  pub wrong : IsBadGate IsRow left
  pub place : at ≡ length (log_front namespace records)

-- the file holds a log with another header
pub record HasOtherHeader (namespace bytes : List ℕ) : Type 0 where
  pub log : HoldsNoLog bytes → ⊥
  pub other : take 38 bytes ≢ 1 ∷ log_mark ++ namespace

-- the log goes wrong at this place: at its header, or at a gate
abbrev pub IsBadLog : (RowValue → Type 0) → List ℕ → List ℕ → ℕ → Type 0
IsBadLog IsRow namespace bytes at = (HasOtherHeader namespace bytes × (at ≡ 0)) ⊎ GoesWrongBehind IsRow namespace bytes at

-- the file has 2^62 bytes or more, which is bad at that place, or else its log goes wrong
abbrev pub IsBadFile : (RowValue → Type 0) → List ℕ → ℕ → List ℕ → Type 0
IsBadFile IsRow namespace at bytes = ((2 ^ 62 ≤ length bytes) × (at ≡ 2 ^ 62)) ⊎ ((length bytes < 2 ^ 62) × IsBadLog IsRow namespace bytes at)

-- bytes are read in one way: they hold no log, or a log of some rows, or one that goes wrong, and that at one place
pub record IsReadOneWay (IsRow : RowValue → Type 0) (namespace bytes : List ℕ) : Type 0 where
  pub none_or_log : (rows : List RowValue) (end : ℕ) → HoldsNoLog bytes → HoldsRowsTo IsRow namespace bytes rows end → ⊥
  pub none_or_bad : (at : ℕ) → HoldsNoLog bytes → IsBadLog IsRow namespace bytes at → ⊥
  pub log_or_bad : (rows : List RowValue) (end at : ℕ) → HoldsRowsTo IsRow namespace bytes rows end → IsBadLog IsRow namespace bytes at → ⊥
  pub one_place : (at place : ℕ) → IsBadLog IsRow namespace bytes at → IsBadLog IsRow namespace bytes place → at ≡ place

abbrev pub AreReadOneWay : (RowValue → Type 0) → Type 0
AreReadOneWay IsRow = (namespace bytes : List ℕ) → IsKey namespace → IsReadOneWay IsRow namespace bytes
