-- What a state answers to an offer.
use Rattle.std.specs.Prelude.{◌≡◌, ℕ, ◌<◌, List, [], ◌∷◌, ◌++◌, length, Option, Some, None, Result, Ok, Err}
use Rattle.spelling.specs.declared.ending.End.{End}
use Rattle.spelling.specs.declared.ending.End.TheVariants.{Refused, NoMemory}
use Rattle.willow_entry.specs.declared.row.LogRow.{LogRow}
use Rattle.willow_entry.specs.LogRow.{LogValue}
use Rattle.willow_entry.specs.Row.{RowValue, HasCovering, IsCoveringAt}
use Rattle.ns_state.specs.declared.live_log.LogFull.{LogFull}
use Rattle.ns_state.specs.declared.state.Told.{Told}
use Rattle.ns_state.specs.declared.state.Told.TheVariants.{Stored, Kept}
use Rattle.ns_state.specs.declared.live_log.TheConstants.{LOG_LIMIT}
use Rattle.ns_state.specs.Log.{values}
use Rattle.ns_state.specs.Machine.{Reply, StoredAt, Covered, Full, Offer, next, reply}

-- no row of the log covers the new one, the log has room, and the new one is its last now, at the position told
pub record IsStored {R : Type 0} (value : R → RowValue) (log : List (LogRow R)) (offered : LogRow R) (at : ℕ) (log' : List (LogRow R)) : Type 0 where
  pub uncovered : HasCovering (values value log) (value offered.row) → ⊥
  pub room : length log < LOG_LIMIT
  pub at_is : at ≡ length log
  pub log_is : log' ≡ log ++ offered ∷ []

-- the row of the log at the position told is the new one or dominates it, and the log is the same
pub record IsKept {R : Type 0} (value : R → RowValue) (log : List (LogRow R)) (offered : LogRow R) (at : ℕ) (log' : List (LogRow R)) : Type 0 where
  pub covers : IsCoveringAt (values value log) at (value offered.row)
  pub log_is : log' ≡ log

-- no row of the log covers the new one, and the log is full: as long as is told, which is the limit
pub record IsFull {R : Type 0} (value : R → RowValue) (log : List (LogRow R)) (row : R) (front : ℕ) : Type 0 where
  pub uncovered : HasCovering (values value log) (value row) → ⊥
  pub length_is : length log ≡ LOG_LIMIT
  pub front_is : front ≡ LOG_LIMIT

-- what becomes of a row for which the log has room: it is stored at the position told, or a row of the log covers it
abbrev pub IsPlaced : {R : Type 0} → (R → RowValue) → List (LogRow R) → LogRow R → List (LogRow R) → Option ℕ → Type 0
IsPlaced value log offered log' (Some at) = IsStored value log offered at log'
IsPlaced value log offered log' None = HasCovering (values value log) (value offered.row) × (log' ≡ log)

-- What a log answers to the offer of a row, and which log there is then. Want of memory comes only where the log has
-- room, and the log is then the same.
abbrev pub IsGrown : {R : Type 0} → (R → RowValue) → List (LogRow R) → LogRow R → List (LogRow R) → Result (Option ℕ) (End LogFull) → Type 0
IsGrown value log offered log' (Ok at) = IsPlaced value log offered log' at
IsGrown value log offered log' (Err (Refused full)) = IsFull value log offered.row full.front × (log' ≡ log)
IsGrown value log offered log' (Err NoMemory) = (log' ≡ log) × (length log < LOG_LIMIT)

-- What a state answers to the offer of a row, and which log there is then. Want of memory comes only where the log has
-- room, and the log is then the same.
abbrev pub IsAnswer : {R : Type 0} → (R → RowValue) → List (LogRow R) → LogRow R → List (LogRow R) → Result Told (End LogFull) → Type 0
IsAnswer value log offered log' (Ok (Stored at)) = IsStored value log offered at log'
IsAnswer value log offered log' (Ok (Kept at)) = IsKept value log offered at log'
IsAnswer value log offered log' (Err (Refused full)) = IsFull value log offered.row full.front × (log' ≡ log)
IsAnswer value log offered log' (Err NoMemory) = (log' ≡ log) × (length log < LOG_LIMIT)

-- The answer tells what the machine of a log replies, but for want of memory. Which row covers the new one, where one
-- does, the machine leaves open; `IsKept` says it of the position told.
abbrev pub Tells : Result Told (End LogFull) → Reply → Type 0
Tells (Ok (Stored at)) r = r ≡ StoredAt at
Tells (Ok (Kept at)) r = r ≡ Covered
Tells (Err (Refused full)) r = r ≡ Full
Tells (Err NoMemory) r = Unit {0}

-- what holds where there was memory
abbrev pub OnAnswer : Result Told (End LogFull) → Type 0 → Type 0
OnAnswer (Ok told) P = P
OnAnswer (Err (Refused full)) P = P
OnAnswer (Err NoMemory) P = Unit {0}

-- the offer of a row by a pass is the machine's step: what is told is its reply, and the log its next one
pub record IsOffer (log : List LogValue) (offered : LogValue) (log' : List LogValue) (result : Result Told (End LogFull)) : Type 0 where
  pub told : Tells result (reply log (Offer offered))
  pub log_is : OnAnswer result (log' ≡ next log (Offer offered))
