-- The log with which a call begins: the authorised rows of its image.
use Rattle.std.specs.Prelude.{◌≡◌, ℕ, ◌+◌, List, [], ◌∷◌, ◌++◌, length, Some, Result, Ok, Err}
use Rattle.spelling.specs.Answers.{or_else}
use Rattle.spelling.specs.declared.ending.End.{End}
use Rattle.spelling.specs.declared.ending.End.TheVariants.{Refused, NoMemory}
use Rattle.willow_entry.specs.Row.{new}
use Rattle.cap_codec.specs.Rows.{RawValue}
use Rattle.mc_cap.specs.declared.refusal.RowRefusal.{RowRefusal}
use Rattle.log_rule.specs.Views.{AreOf}
use Rattle.ns_state.specs.declared.live_log.LogFull.{LogFull}
use Rattle.sync_link.specs.Kept.{log_rows}
use Rattle.peer_rows.specs.Logged.{authorised_rows, first_refused, PassesLog}
use Rattle.peer_stage.specs.declared.outcome.Stop.{Stop}
use Rattle.peer_stage.specs.declared.outcome.Stop.TheVariants as stop
use Rattle.peer_run.specs.declared.opening.Opening.{Opening}

-- Of these rows the authorised ones that none before them covers stand in the log of the namespace, in order and all as
-- rows of pass 0; so many rows there were, and this is the first that is not authorised.
pub record IsOpened (namespace : List ℕ) (rows : List RawValue) (x : Opening) : Type 0 where
  pub of_namespace : x.state.namespace ≡ namespace
  pub held : log_rows x.state.log ≡ new (authorised_rows namespace rows)
  pub own : AreOf 0 x.state.log
  pub counted : x.rows ≡ length rows
  pub first_is : x.first ≡ first_refused namespace rows

-- how the log of the rows of an image is made: it is theirs, or one too many would be stored
abbrev pub OpensLog : List ℕ → List RawValue → Result Opening Stop → Type 0
OpensLog namespace rows (Ok x) = IsOpened namespace rows x
OpensLog namespace rows (Err stop.LogFull) = PassesLog namespace rows
OpensLog namespace rows (Err stop.NoMemory) = Unit {0}
OpensLog namespace rows (Err e) = ⊥

-- how it goes on by one row
abbrev pub TakesRow : List ℕ → List RawValue → RawValue → Opening → Result (Unit {0}) (End LogFull) → Type 0
TakesRow namespace seen row x (Ok u) = IsOpened namespace (seen ++ row ∷ []) x
TakesRow namespace seen row x (Err (Refused full)) = PassesLog namespace (seen ++ row ∷ [])
TakesRow namespace seen row x (Err NoMemory) = PassesLog namespace (seen ++ row ∷ []) → ⊥

-- the same with one row more that is not authorised
abbrev pub with_refused : RowRefusal → Opening → Opening
with_refused refusal x = record x { rows = x.rows + 1; first = or_else x.first (Some (record { row = x.rows + 1; refusal = refusal })) }
