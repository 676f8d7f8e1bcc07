-- The log file of a server as it stands, and how it goes on while rows are kept in it.
use Rattle.std.specs.Prelude.{◌≡◌, ◌⊎◌, ℕ, ◌+◌, ◌*◌, ◌^◌, ◌<◌, ◌≤◌, Bool, true, false, List, [], ◌++◌, length, drop, Some, None, IfSome, is_some}
use Rattle.std.specs.Option.{option_map}
use Rattle.std.specs.declared.option.Option.{Option}
use Rattle.std.specs.declared.alloc.Global.{Global}
use Rattle.std.specs.declared.sync.Arc.{Arc}
use mathlib.Core.List.{IsPrefix}
use Rattle.willow_outside.specs.Counts.{Rose}
use Rattle.willow_outside.specs.Facts.{DiskFacts}
use Rattle.willow_entry.specs.Row.{RowValue}
use Rattle.willow_entry.specs.declared.row.LogRow.{LogRow}
use Rattle.cap_codec.specs.Rows.{IsRawRow}
use Rattle.auth_entry.specs.Authorised.{AuthorisedValue}
use Rattle.auth_entry.specs.Rows.{entry_row}
use Rattle.ns_state.specs.declared.live_log.TheConstants.{LOG_LIMIT}
use Rattle.log_keeper.specs.Causes.{CountsNoFault}
use Rattle.log_keeper.specs.LogFile.{HoldsRows, HoldsRowsTo}
use Rattle.log_keeper.specs.Slices.{logged_rows}
use Rattle.sync_link.specs.Kept.{log_rows}
use Rattle.peer_stage.specs.declared.outcome.Stop.{Stop}
use Rattle.peer_stage.specs.declared.outcome.Stop.TheVariants as stop
use Rattle.peer_run.specs.declared.log_file.LogFile.{LogFile}

-- ---- as it stands

-- what its disk tells, the place of its closed gate, how many rows its keeper counts, how many it held when it was last made, opened
-- or written, up to which row of the log it was kept, and whether a write of it failed
pub record FileState : Type 0 where
  pub disk : DiskFacts
  pub end : ℕ
  pub count : ℕ
  pub kept : ℕ
  pub front : ℕ
  pub broken : Bool

abbrev pub file_state : {K : Type 0} → (K → DiskFacts) → LogFile K → FileState
file_state facts file = record { disk = facts file.keeper.disk; end = file.keeper.end; count = file.keeper.count; kept = file.kept; front = file.front; broken = file.keeper.broken }

-- where there is one
abbrev pub file_states : {K : Type 0} → (K → DiskFacts) → Option (LogFile K) → Option FileState
file_states facts file = option_map (file_state facts) file

-- Its contents, where they are told, are those of a log of the namespace with these rows, up to the closed gate, and so many are
-- counted.
pub record HoldsFile (namespace : List ℕ) (rows : List RowValue) (f : FileState) : Type 0 where
  pub held : IfSome f.disk.contents (λ bytes. HoldsRowsTo IsRawRow namespace bytes rows f.end)
  pub counted : f.kept ≡ length rows

-- ---- it goes on

-- All of these rows are kept behind those that it held, each in fewer than 2^26 bytes, and no fault is counted.
pub record HasKept (rows : List RowValue) (old new : FileState) : Type 0 where
  pub began : old.broken ≡ false
  pub unbroken : new.broken ≡ false
  pub holds : (namespace : List ℕ) (before : List RowValue) → HoldsFile namespace before old → HoldsFile namespace (before ++ rows) new
  pub counted : new.kept ≡ old.kept + length rows
  pub known : new.kept ≡ new.count
  pub end : new.end ≤ old.end + 2 ^ 26 * length rows
  pub faults : CountsNoFault old.disk new.disk
  pub told : is_some new.disk.contents ≡ is_some old.disk.contents

-- The bytes hold these rows, and behind them the first of those that were to be kept: those that are counted, and it may be some
-- more, no more than a slice has.
pub record HoldsFirst (namespace : List ℕ) (before first rows : List RowValue) (bytes : List ℕ) : Type 0 where
  pub held : List RowValue
  pub front : IsPrefix held rows
  pub behind : IsPrefix first held
  pub few : length held ≤ length first + 256
  pub holds : HoldsRows IsRawRow namespace bytes (before ++ held)

-- A write failed, it may be earlier: the first of these rows are kept. Where it was earlier these are none, and the disk is as it was.
pub record HasFailed (rows : List RowValue) (old new : FileState) : Type 0 where
  pub broken : new.broken ≡ true
  pub first : List RowValue
  pub front : IsPrefix first rows
  pub holds : (namespace : List ℕ) (before : List RowValue) → HoldsFile namespace before old → IfSome new.disk.contents (HoldsFirst namespace before first rows)
  pub told : is_some new.disk.contents ≡ is_some old.disk.contents
  pub counted : new.kept ≡ old.kept + length first
  pub reads : new.disk.read_faults ≡ old.disk.read_faults
  pub never_falls : old.disk.write_faults ≤ new.disk.write_faults
  pub rose : old.broken ≡ false → Rose old.disk.write_faults new.disk.write_faults
  pub stays : old.broken ≡ true → (first ≡ []) × (new.disk ≡ old.disk)

-- one of the two
abbrev pub Keeps : List RowValue → FileState → FileState → Type 0
Keeps rows old new = HasKept rows old new ⊎ HasFailed rows old new

-- it is kept on by these rows of the log
pub record KeepsOn (rows : List RowValue) (old new : FileState) : Type 0 where
  pub front : new.front ≡ old.front + length rows
  pub kept : Keeps rows old new

-- Memory was wanting among these rows: the first of them are kept, the file goes on by them alone, and no write has failed.
pub record WantsMemory (rows : List RowValue) (old new : FileState) : Type 0 where
  pub first : List RowValue
  pub front : IsPrefix first rows
  pub kept : HasKept first old new
  pub at : new.front ≡ old.front + length first

-- some rows, whichever
pub record KeepsSome (old new : FileState) : Type 0 where
  pub rows : List RowValue
  pub kept : Keeps rows old new

-- ---- where there is one

abbrev pub KeepsOnIf : List RowValue → Option FileState → Option FileState → Type 0
KeepsOnIf rows None None = Unit {0}
KeepsOnIf rows (Some old) (Some new) = KeepsOn rows old new
KeepsOnIf rows old new = ⊥

abbrev pub WantsMemoryIf : List RowValue → Option FileState → Option FileState → Type 0
WantsMemoryIf rows (Some old) (Some new) = WantsMemory rows old new
WantsMemoryIf rows old new = ⊥

abbrev pub KeepsSomeIf : Option FileState → Option FileState → Type 0
KeepsSomeIf (Some old) (Some new) = KeepsSome old new
KeepsSomeIf old new = ⊥

-- where memory is wanting for these rows, or before they are read: it is as it was, or the first of them are kept
abbrev pub StopsKeeping : List RowValue → Option FileState → Option FileState → Type 0
StopsKeeping rows old new = (new ≡ old) ⊎ WantsMemoryIf rows old new

-- unless a write failed: its place leaves room for the rows of a log behind this one, and the keeper counts as many rows
abbrev pub LeavesRoom : ℕ → FileState → Type 0
LeavesRoom front f = f.broken ≡ false → (f.end ≤ 2 ^ 62 + 2 ^ 26 * front) × (f.kept ≡ f.count)

-- it was kept up to this row of the log, and has room for the others
pub record IsAt (front : ℕ) (f : FileState) : Type 0 where
  pub at : f.front ≡ front
  pub room : LeavesRoom front f

abbrev pub IsAtIf : ℕ → Option FileState → Type 0
IsAtIf front f = IfSome f (IsAt front)

-- it has room for so many rows more
pub record HasRoom (count : ℕ) (f : FileState) : Type 0 where
  pub few : f.front + count ≤ LOG_LIMIT
  pub room : LeavesRoom f.front f

-- a file that was just opened is not too long
pub record IsLow (f : FileState) : Type 0 where
  pub low : f.end < 2 ^ 62
  pub known : f.kept ≡ f.count

abbrev pub IsLowIf : Option FileState → Type 0
IsLowIf f = IfSome f IsLow

-- ---- by a log

-- the rows of a slice of a log
abbrev pub slice_values : List (LogRow (Arc AuthorisedValue Global)) → List RowValue
slice_values slice = logged_rows (λ (shared : Arc AuthorisedValue Global). entry_row shared.value) slice

-- the same from this row of the log on
abbrev pub begun_at : ℕ → FileState → FileState
begun_at front f = record f { front = front }

-- From the opening rows on it was kept up to what was seen of the log.
pub record KeepsSeen (opening log : List (LogRow AuthorisedValue)) (old new : FileState) : Type 0 where
  pub seen : List (LogRow AuthorisedValue)
  pub behind : IsPrefix opening seen
  pub front : IsPrefix seen log
  pub at : IsAt (length seen) new
  pub kept : Keeps (log_rows (drop (length opening) seen)) old new

abbrev pub KeepsSeenIf : List (LogRow AuthorisedValue) → List (LogRow AuthorisedValue) → Option FileState → Option FileState → Type 0
KeepsSeenIf opening log None None = Unit {0}
KeepsSeenIf opening log (Some old) (Some new) = KeepsSeen opening log old new
KeepsSeenIf opening log old new = ⊥

-- it is kept up to the end of the log
abbrev pub KeepsRest : List (LogRow AuthorisedValue) → Option FileState → Option FileState → Type 0
KeepsRest log None None = Unit {0}
KeepsRest log (Some old) (Some new) = KeepsOn (log_rows (drop old.front log)) old new
KeepsRest log old new = ⊥

-- memory was wanting among the rows up to there
abbrev pub WantsRest : List (LogRow AuthorisedValue) → Option FileState → Option FileState → Type 0
WantsRest log (Some old) (Some new) = WantsMemory (log_rows (drop old.front log)) old new
WantsRest log old new = ⊥

-- the same, or before they are read
abbrev pub StopsRest : List (LogRow AuthorisedValue) → Option FileState → Option FileState → Type 0
StopsRest log old new = (new ≡ old) ⊎ WantsRest log old new

-- one of the two
abbrev pub EndsKeeping : List (LogRow AuthorisedValue) → Option FileState → Option FileState → Type 0
EndsKeeping log old new = KeepsRest log old new ⊎ StopsRest log old new

-- how it stands where a run stops behind it: it is as it was, or for want of memory some rows were kept
abbrev pub StopsFile : Stop → Option FileState → Option FileState → Type 0
StopsFile stop.NoMemory old new = (new ≡ old) ⊎ KeepsSomeIf old new
StopsFile e old new = new ≡ old
