-- Two logs that exchange what they offer of their rows.
use Rattle.std.specs.Prelude.{◌≡◌, ◌⊎◌, ◌+◌, List, ◌++◌, length, map, Option, option_map, Result, Ok, Err}
use Rattle.spelling.specs.declared.ending.End.{End}
use Rattle.spelling.specs.declared.ending.End.TheVariants.{Refused, NoMemory}
use Rattle.willow_area.specs.AreaBox.{area_box}
use Rattle.willow_area.specs.Boxes.{Ranges}
use Rattle.willow_area.specs.declared.area.Area.{Area}
use Rattle.willow_entry.specs.Row.{RowValue, live, new}
use Rattle.area_interest.specs.declared.interest.Interest.{Interest}
use Rattle.exchange_rules.specs.Items.{to_left, to_right, counted}
use Rattle.exchange_rules.specs.Exchange as rules
use Rattle.sync_hello.specs.declared.version.TheConstants.{HIGHEST_VERSION}
use Rattle.sync_core.specs.Flat.{TurnValue}
use Rattle.sync_core.specs.SyncRules.{sync_rules}
use Rattle.sync_pair.specs.Meeting.{turn_bytes}
use Rattle.auth_entry.specs.Authorised.{AuthorisedValue}
use Rattle.ns_state.specs.Log.{StateValue}
use Rattle.ns_state.specs.declared.live_log.LogFull.{LogFull}
use Rattle.peer_rows.specs.RowLogs.{HasTaken, ArePastLog, ReachesRoom}
use Rattle.auth_entry.specs.Rows.{entry_row}
use Rattle.peer_run.specs.Offered.{offer}
use Rattle.peer_run.specs.declared.exchanging.Came.{Came}
use Rattle.peer_run.specs.declared.exchanging.Exchanged.{Exchanged}

-- the box of the area, where there is one
abbrev pub boxed : Option Area → Option Ranges
boxed area = option_map area_box area

-- the turns of two stores of these rows over a box, each of which offers as much of them as the limits leave, by the rules of
-- the version that this program speaks; the first begins
abbrev pub met : List RowValue → List RowValue → Option Ranges → Interest → List TurnValue
met a b area limits = rules.exchange (sync_rules HIGHEST_VERSION) (offer limits area (live a)) (offer limits area (live b)) area

-- of the rows that came behind some others, so many were new, and so many an earlier one covered
pub record HasCome (seen rows : List RowValue) (came : Came) : Type 0 where
  pub stored : length (new seen) + came.stored ≡ length (new (seen ++ rows))
  pub all : came.stored + came.kept ≡ length rows

-- A log took the rows that came behind some others: each that was to be stored found room.
pub record HasTakenUp (seen rows : List RowValue) (log : StateValue AuthorisedValue) (came : Came) : Type 0 where
  pub taken : HasTaken entry_row (seen ++ rows) log
  pub numbers : HasCome seen rows came
  pub room : ArePastLog (seen ++ rows) → ⊥

-- how a log takes the rows that came
abbrev pub Takes : List RowValue → List RowValue → StateValue AuthorisedValue → Result Came (End LogFull) → Type 0
Takes seen rows log (Ok came) = HasTakenUp seen rows log came
Takes seen rows log (Err (Refused full)) = ArePastLog (seen ++ rows)
Takes seen rows log (Err NoMemory) = ReachesRoom seen rows

-- The turns in bytes are those of the exchange of two stores, so many items were counted, and each side took what came.
pub record AreMet (a b : List RowValue) (area : Option Ranges) (limits : Interest) (left_log right_log : StateValue AuthorisedValue) (x : Exchanged) : Type 0 where
  pub turns : map (λ t. t.items) x.turns.items ≡ map (turn_bytes HIGHEST_VERSION) (met a b area limits)
  pub items : x.items ≡ counted (met a b area limits)
  pub left : HasTakenUp a (to_left (met a b area limits)) left_log x.left
  pub right : HasTakenUp b (to_right (met a b area limits)) right_log x.right

-- what comes to one of them is too much for its log
abbrev pub IsPastOne : List RowValue → List RowValue → Option Ranges → Interest → Type 0
IsPastOne a b area limits = ArePastLog (a ++ to_left (met a b area limits)) ⊎ ArePastLog (b ++ to_right (met a b area limits))

-- how the exchange of two logs ends that took these rows before
abbrev pub Exchanges : List RowValue → List RowValue → Option Ranges → Interest → StateValue AuthorisedValue → StateValue AuthorisedValue → Result Exchanged (End LogFull) → Type 0
Exchanges a b area limits left right (Ok x) = AreMet a b area limits left right x
Exchanges a b area limits left right (Err (Refused full)) = IsPastOne a b area limits
Exchanges a b area limits left right (Err NoMemory) = Unit {0}
