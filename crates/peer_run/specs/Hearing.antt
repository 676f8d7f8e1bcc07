-- What those who watch a server hear: the rows that come into its log behind the opening ones.
use Rattle.std.specs.Prelude.{◌≡◌, ◌⊎◌, ℕ, Bool, true, false, List, length, drop, Some}
use Rattle.std.specs.declared.option.Option.{Option}
use mathlib.Core.List.{IsPrefix}
use Rattle.willow_outside.specs.declared.fault.Fault.{Fault}
use Rattle.willow_outside.specs.declared.fault.Fault.TheVariants as fault
use Rattle.willow_area.specs.declared.area.Area.{Area}
use Rattle.willow_entry.specs.Row.{RowValue}
use Rattle.willow_entry.specs.declared.row.LogRow.{LogRow}
use Rattle.auth_entry.specs.Authorised.{AuthorisedValue}
use Rattle.auth_entry.specs.Rows.{entry_row}
use Rattle.ns_state.specs.Log.{IsLog}
use Rattle.sync_link.specs.Kept.{log_rows}
use Rattle.sub_hub.specs.Hubs.{HubValue, IsPumped, begun_at}
use Rattle.peer_stage.specs.declared.outcome.Stop.{Stop}
use Rattle.peer_stage.specs.declared.outcome.Stop.TheVariants as stop

-- the rows of a log behind as many as the opening ones
abbrev pub rows_behind : List (LogRow AuthorisedValue) → List (LogRow AuthorisedValue) → List RowValue
rows_behind opening log = log_rows (drop (length opening) log)

-- The log is one of the namespace and begins with the opening rows. All who watch were told of just its rows behind those, in
-- order, and so many left.
pub record HaveHeardBehind (namespace : List ℕ) (opening log : List (LogRow AuthorisedValue)) (hub hub' : HubValue) (left : ℕ) : Type 0 where
  pub front : IsPrefix opening log
  pub is_log : IsLog entry_row namespace log
  pub told : IsPumped hub hub' (rows_behind opening log) left

-- They were told up to the end of what a pass has seen; where memory was wanting, up to the end of some log before.
pub record HaveHeardSeen (namespace : List ℕ) (opening seen : List (LogRow AuthorisedValue)) (stopped : Option Fault) (hub hub' : HubValue) (left : ℕ) : Type 0 where
  pub log : List (LogRow AuthorisedValue)
  pub heard : HaveHeardBehind namespace opening log hub hub' left
  pub all : (stopped ≡ Some fault.NoMemory → ⊥) → log ≡ seen

-- ---- in all

-- a server begins its hub behind the opening rows, with this area
abbrev pub hub_opened : Area → List (LogRow AuthorisedValue) → HubValue → HubValue
hub_opened area opening hub = begun_at hub (length opening) area

-- By whether links were waited for: a server told of all rows of the log behind the opening ones, and a call told nobody.
abbrev pub HearsSessions : Bool → Area → List ℕ → List (LogRow AuthorisedValue) → List (LogRow AuthorisedValue) → HubValue → HubValue → ℕ → Type 0
HearsSessions true area namespace opening log hub hub' left = HaveHeardBehind namespace opening log (hub_opened area opening hub) hub' left
HearsSessions false area namespace opening log hub hub' left = (hub' ≡ hub) × (left ≡ 0)

-- the hub of a server that stopped for want of memory: it is as it was, or it was begun, and the first rows of a log were told
abbrev pub HasHeardSome : Area → List ℕ → List (LogRow AuthorisedValue) → HubValue → HubValue → Type 0
HasHeardSome area namespace opening hub hub' =
    (hub' ≡ hub) ⊎ ((log : List (LogRow AuthorisedValue)) × (left : ℕ) × HaveHeardBehind namespace opening log (hub_opened area opening hub) hub' left)

-- where no sessions are told: for another stop, and in a call, the hub is as it was
abbrev pub StopsHearing : Bool → Area → List ℕ → List (LogRow AuthorisedValue) → HubValue → HubValue → Stop → Type 0
StopsHearing true area namespace opening hub hub' stop.NoMemory = HasHeardSome area namespace opening hub hub'
StopsHearing awaited area namespace opening hub hub' e = hub' ≡ hub
