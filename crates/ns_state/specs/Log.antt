-- The log of a state.
use Rattle.std.specs.Prelude.{◌≡◌, ℕ, ◌≤◌, List, map, length}
use Rattle.std.specs.List.{All}
use Rattle.std.specs.declared.sync.Arc.{Arc}
use Rattle.willow_entry.specs.declared.row.LogRow.{LogRow}
use Rattle.willow_entry.specs.LogRow.{LogValue, log_value}
use Rattle.willow_entry.specs.Row.{RowValue, new}
use Rattle.ns_state.specs.declared.live_log.TheConstants.{LOG_LIMIT}

-- what contracts see of a state: its namespace and its log
pub record StateValue (R : Type 0) : Type 0 where
  pub namespace : List ℕ
  pub log : List (LogRow R)

-- a row of a log that others share, seen as the row
abbrev pub plain_row : {R A : Type 0} → LogRow (Arc R A) → LogRow R
plain_row logged = record { pass = logged.pass; row = logged.row.value }

-- what contracts see of a log
abbrev pub logged : {R : Type 0} → (R → RowValue) → List (LogRow R) → List LogValue
logged value log = map (log_value value) log

-- what contracts see of its rows, whoever offered them
abbrev pub values : {R : Type 0} → (R → RowValue) → List (LogRow R) → List RowValue
values value log = map (λ l. value l.row) log

-- no row of the log is covered by the rows before it, there are at most as many as the limit, and all stand in the namespace
pub record IsLog {R : Type 0} (value : R → RowValue) (namespace : List ℕ) (log : List (LogRow R)) : Type 0 where
  pub fresh : new (values value log) ≡ values value log
  pub few : length log ≤ LOG_LIMIT
  pub one_namespace : All (λ (r : RowValue). r.entry.namespace ≡ namespace) (values value log)
