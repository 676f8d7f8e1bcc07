-- What stands behind sessions: what is told of them, and the image of the log.
use Rattle.std.specs.Prelude.{ℕ, ◌+◌, ◌-◌, ◌^◌, min, Bool, true, false, List, Option, Some, None, Result, Ok, Err}
use Rattle.spelling.specs.declared.ending.NoMemory.{NoMemory}
use Rattle.willow_entry.specs.Row.{live}
use Rattle.auth_entry.specs.Authorised.{AuthorisedValue}
use Rattle.mc_cap.specs.declared.refusal.RefusedRow.{RefusedRow}
use Rattle.ns_state.specs.Log.{StateValue}
use Rattle.session_end.specs.declared.end.SessionEnd.{SessionEnd}
use Rattle.session_end.specs.declared.end.SessionEnd.TheVariants as ending
use Rattle.sync_link.specs.Kept.{log_rows}
use Rattle.sync_link.specs.declared.plan.SessionReport.{SessionReport}
use Rattle.peer_image.specs.Image.{image}
use Rattle.peer_stage.specs.declared.outcome.SessionCounts.{SessionCounts}
use Rattle.peer_stage.specs.declared.outcome.Stop.{Stop}
use Rattle.peer_stage.specs.declared.outcome.Stop.TheVariants as stop

-- the numbers that are told of a session
abbrev pub counts_of : SessionReport → SessionCounts
counts_of r = record { opened = r.opened; closed = r.closed; stored = r.stored; kept = r.kept; refused = r.refused; sent = r.sent; read = r.read }

-- a refused row behind so many others, up to the last number of a u64
abbrev pub refused_after : ℕ → Option RefusedRow → Option RefusedRow
refused_after before None = None
refused_after before (Some first) = Some (record { row = min (before + first.row) (2 ^ 64 - 1); refusal = first.refusal })

-- memory was wanting in the session
abbrev pub IsForWant : Result SessionReport SessionEnd → Type 0
IsForWant (Err ending.NoMemory) = Unit {0}
IsForWant end = ⊥

-- the answer to the put of an image that was tried to be put
abbrev pub put_answer : Bool → Result (Unit {0}) Stop
put_answer true = Ok tt
put_answer false = Err stop.WriteFault

-- the same, where memory may be wanting too
abbrev pub put_end : Result Bool NoMemory → Result (Unit {0}) Stop
put_end (Ok put) = put_answer put
put_end (Err e) = Err stop.NoMemory

-- the image of what is live of the log of a state
abbrev pub image_of : StateValue AuthorisedValue → List ℕ
image_of state = image state.namespace (live (log_rows state.log))
