-- What the answer to an offer says of the pass that made it.
use Rattle.std.specs.Prelude.{◌≡◌, ℕ, ◌++◌, List, [], ◌∷◌, length, Result, Ok, Err}
use mathlib.Core.List.{IsPrefix}
use Rattle.spelling.specs.declared.ending.End.{End}
use Rattle.willow_entry.specs.LogRow.{log_value}
use Rattle.willow_entry.specs.Row.{RowValue}
use Rattle.willow_entry.specs.declared.row.LogRow.{LogRow}
use Rattle.ns_state.specs.Log.{logged}
use Rattle.ns_state.specs.Answer.{IsAnswer, IsOffer}
use Rattle.ns_state.specs.declared.live_log.LogFull.{LogFull}
use Rattle.ns_state.specs.declared.state.Told.{Told}
use Rattle.ns_state.specs.declared.state.Told.TheVariants.{Stored, Kept}
use Rattle.ns_cell.specs.Passes.{PassValue, IsLater}

-- what a pass does in a call: it offers a row and is answered so; or it takes a snapshot, reads the log or meets another
pub data Call (R : Type 0) : Type 0 where
  Offers : R → Result Told (End LogFull) → Call R
  Reads : Call R

module _ {R : Type 0} where
  -- the row as it stands in a log, under the number of the pass
  abbrev pub offered : PassValue R → R → LogRow R
  offered pass row = record { pass = pass.number; row = row }

  -- the row, where it was stored
  abbrev pub stored : LogRow R → Result Told (End LogFull) → List (LogRow R)
  stored row (Ok (Stored at)) = row ∷ []
  stored row (Ok (Kept at)) = []
  stored row (Err e) = []

  -- An offer in a cell is an offer to its state, under the number of the pass, on the one log of that moment.
  -- `seen`: the log begins with all that the pass had seen. `answer`, `event`: on it the offer is answered, in the words of
  -- a state and as an event of the machine of a log, and what comes of it the pass has then seen whole.
  -- `own`: the own list grew by the row where it was stored.
  pub record IsOffered (value : R → RowValue) (before : PassValue R) (row : R) (after : PassValue R) (result : Result Told (End LogFull)) : Type 0 where
    pub log : List (LogRow R)
    pub seen : IsPrefix before.seen log
    pub answer : IsAnswer value log (offered before row) after.seen result
    pub event : IsOffer (logged value log) (log_value value (offered before row)) (logged value after.seen) result
    pub own : after.own ≡ before.own ++ stored (offered before row) result

  -- the call made this of the pass: what it offered was answered so, or it has seen what it had seen, and maybe more
  abbrev pub Makes : (R → RowValue) → PassValue R → Call R → PassValue R → Type 0
  Makes value before (Offers row result) after = IsLater before after × IsOffered value before row after result
  Makes value before Reads after = IsLater before after × (after.own ≡ before.own)

  -- the rows that the call stored
  abbrev pub stored_by : PassValue R → Call R → List (LogRow R)
  stored_by pass (Offers row result) = stored (offered pass row) result
  stored_by pass Reads = []

  -- the place of a call in the one log: that of the row where one was stored, else where that ends which was then seen
  abbrev pub place : Call R → PassValue R → ℕ
  place (Offers row (Ok (Stored at))) after = at
  place (Offers row (Ok (Kept at))) after = length after.seen
  place (Offers row (Err e)) after = length after.seen
  place Reads after = length after.seen
