-- What a server's log file holds behind a run that tells of sessions.
use Rattle.std.specs.Prelude.{◌≡◌, ℕ, Bool, true, false, ◌&&◌, not, List, ◌++◌, length, Some, None, IfSome}
use Rattle.std.specs.String.{string_bytes}
use Rattle.std.specs.declared.option.Option.{Option}
use Rattle.std.specs.declared.string.String.{String}
use Rattle.std.specs.declared.alloc.Global.{Global}
use mathlib.Core.List.{IsPrefix}
use Rattle.willow_outside.specs.Counts.{Rose}
use Rattle.willow_outside.specs.Facts.{BayFacts, DiskFacts}
use Rattle.willow_entry.specs.Row.{RowValue}
use Rattle.cap_codec.specs.Rows.{IsRawRow}
use Rattle.log_keeper.specs.LogFile.{HoldsRows}
use Rattle.peer_stage.specs.declared.outcome.Hosted.{Hosted}
use Rattle.peer_run.specs.LogFiles.{HoldsFirst}
use Rattle.peer_run.specs.LogOpening.{IsBack, TellsRows}

-- The disk's bytes hold the rows that were there before, and behind them these. So many rows it holds.
pub record HoldsOldAndNew (namespace : List ℕ) (before : List RowValue) (rows : List RowValue) (disk : DiskFacts) (kept : ℕ) : Type 0 where
  pub after : List ℕ
  pub told : disk.contents ≡ Some after
  pub holds : HoldsRows IsRawRow namespace after (before ++ rows)
  pub counted : kept ≡ length (before ++ rows)

-- A write of the disk failed: of these rows the first are counted, behind those that were there before. The disk's bytes hold them,
-- and it may be some of the next that were written.
pub record HasKeptFirst (namespace : List ℕ) (before rows : List RowValue) (old : BayFacts) (disk : DiskFacts) (kept : ℕ) : Type 0 where
  pub first : List RowValue
  pub front : IsPrefix first rows
  pub counted : kept ≡ length (before ++ first)
  pub holds : IfSome old.names (λ names. (after : List ℕ) × (disk.contents ≡ Some after) × HoldsFirst namespace before first rows after)

-- The name was opened at the bay, once, and its disk is back. It held these rows before; behind the run it holds these and then those
-- that came into the log, unless a write of it failed: then it was told of the first of those alone.
pub record HasKeptLog (name namespace : List ℕ) (rows : List RowValue) (old new : BayFacts) (hosted reported : Hosted) : Type 0 where
  pub disk : DiskFacts
  pub back : IsBack name old new disk
  pub before : List RowValue
  pub held : TellsRows name namespace old before
  pub failed : Bool
  pub kept : ℕ
  pub reads : disk.read_faults ≡ 0
  pub unfailed : failed ≡ false → (disk.write_faults ≡ 0) × (kept ≡ length (before ++ rows))
  pub holds : failed ≡ false → IfSome old.names (λ names. HoldsOldAndNew namespace before rows disk kept)
  pub rose : failed ≡ true → Rose 0 disk.write_faults
  pub first : failed ≡ true → HasKeptFirst namespace before rows old disk kept
  -- so many rows it keeps, and a write that failed is told as a failed put
  pub tells : reported ≡ record hosted { kept = Some kept; put = hosted.put && not failed }

-- without a log file the bay is as it was, and nothing more is told
abbrev pub KeepsLog : Option (String Global) → List ℕ → List RowValue → BayFacts → BayFacts → Hosted → Hosted → Type 0
KeepsLog None namespace rows old new hosted reported = (new ≡ old) × (reported ≡ hosted)
KeepsLog (Some name) namespace rows old new hosted reported = HasKeptLog (string_bytes name) namespace rows old new hosted reported
