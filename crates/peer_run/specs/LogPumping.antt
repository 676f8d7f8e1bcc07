-- How the log file of a server goes on while links come.
use Rattle.std.specs.Prelude.{List, Some}
use Rattle.std.specs.declared.option.Option.{Option}
use mathlib.Core.List.{IsPrefix}
use Rattle.willow_outside.specs.declared.fault.Fault.{Fault}
use Rattle.willow_outside.specs.declared.fault.Fault.TheVariants as fault
use Rattle.willow_entry.specs.declared.row.LogRow.{LogRow}
use Rattle.auth_entry.specs.Authorised.{AuthorisedValue}
use Rattle.peer_run.specs.Hearing.{rows_behind}
use Rattle.peer_run.specs.LogFiles.{FileState, KeepsOnIf, StopsKeeping}

-- Memory was wanting: it was kept on up to what had been seen before, and stops among what was seen then.
pub record StopsWithin (opening seen : List (LogRow AuthorisedValue)) (old new : Option FileState) : Type 0 where
  pub before : List (LogRow AuthorisedValue)
  pub behind : IsPrefix opening before
  pub front : IsPrefix before seen
  pub between : Option FileState
  pub kept : KeepsOnIf (rows_behind opening before) old between
  pub stops : StopsKeeping (rows_behind before seen) between new

-- it is kept on up to what a pass has seen, unless memory was wanting
abbrev pub KeepsUpTo : List (LogRow AuthorisedValue) → List (LogRow AuthorisedValue) → Option Fault → Option FileState → Option FileState → Type 0
KeepsUpTo opening seen (Some fault.NoMemory) old new = StopsWithin opening seen old new
KeepsUpTo opening seen stopped old new = KeepsOnIf (rows_behind opening seen) old new
