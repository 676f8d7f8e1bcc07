-- All whole messages of a session, taken from the front of bytes.
use Rattle.std.specs.Prelude.{ℕ, ◌+◌, ◌≤◌, List, [], length, take, drop}
use Rattle.scheme_core.specs.Rules.{Rules}
use Rattle.willow_entry.specs.Row.{RowValue}
use Rattle.sync_link.specs.Progress.{CountsOn}
use Rattle.sync_link.specs.Held.{progress_with}
use Rattle.sync_link.specs.Standing.{ReadsPiece}
use Rattle.sync_link.specs.Talking.{Keeps}
use Rattle.sync_link.specs.Taking.{Fits, Holds, read_by, waiting_side}
use Rattle.sync_link.specs.declared.side.awaited.Awaited.{Awaited}
use Rattle.sync_link.specs.declared.side.participant.Participant.{Participant}

-- So many bytes were taken from the front, and the next message begins behind them.
pub record TakesFront {R S : Type 0} (rules : Rules) (value : R → RowValue) (old new : Participant R S) (due next : Awaited R) (bytes : List ℕ) (taken : ℕ) (out_old out_new : List ℕ) (rows_old rows_new : List RowValue) : Type 0 where
  pub keeps : Keeps old new
  pub within : taken ≤ length bytes
  pub reads_piece : (at : ℕ) → ReadsPiece (waiting_side rules value old due at []) (waiting_side rules value new next (at + taken) []) (take taken bytes) out_old out_new rows_old rows_new
  pub counts : (at : ℕ) → CountsOn (progress_with rules value old due at []) (progress_with rules value new next (at + taken) []) (take taken bytes)
  pub fits : Fits old.role new.signature next
  pub read : read_by next ≤ read_by due + taken

-- The bytes are read, and so many were taken: those behind them are a part of what is due then, if anything is.
pub record TakesAll {R S : Type 0} (rules : Rules) (value : R → RowValue) (old new : Participant R S) (due next : Awaited R) (bytes : List ℕ) (taken : ℕ) (out_old out_new : List ℕ) (rows_old rows_new : List RowValue) : Type 0 where
  pub within : taken ≤ length bytes
  pub reads_piece : (at : ℕ) → ReadsPiece (waiting_side rules value old due at []) (waiting_side rules value new next (at + taken) (drop taken bytes)) bytes out_old out_new rows_old rows_new
  pub counts : (at : ℕ) → CountsOn (progress_with rules value old due at []) (progress_with rules value new next (at + taken) (drop taken bytes)) bytes
  pub fits : Fits old.role new.signature next
  pub read : read_by next ≤ read_by due + taken
  pub holds : Holds rules value new next (drop taken bytes)
