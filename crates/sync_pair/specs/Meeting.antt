-- What the exchange of two stores in memory answers.
use Rattle.std.specs.Prelude.{◌≡◌, ℕ, List, map, flat_map, Option}
use Rattle.willow_area.specs.Boxes.{Ranges}
use Rattle.willow_entry.specs.Row.{RowValue}
use Rattle.exchange_rules.specs.Items.{counted, to_left, to_right}
use Rattle.exchange_rules.specs.Exchange.{exchange}
use Rattle.sync_msg.specs.Items.{item_spelling}
use Rattle.sync_core.specs.SyncRules.{sync_rules}
use Rattle.sync_core.specs.Flat.{TurnValue, turn_items}
use Rattle.sync_pair.specs.declared.meet.PairRun.{PairRun}

-- the spellings of the items that tell a turn in a version, one behind the other
abbrev pub turn_bytes : ℕ → TurnValue → List ℕ
turn_bytes version t = flat_map item_spelling (turn_items version t)

-- the turns of the exchange by the rules of a version, with left as the caller, over the box of the area if there is one
abbrev pub meeting : ℕ → List RowValue → List RowValue → Option Ranges → List TurnValue
meeting version left right area = exchange (sync_rules version) left right area

-- The run is that exchange: its turns in bytes, the rows that each side gets in the order in which they come, and the
-- number of its items.
pub record IsMeeting {R : Type 0} (version : ℕ) (value : R → RowValue) (left right : List RowValue) (area : Option Ranges) (run : PairRun R) : Type 0 where
  pub turns : map (λ turn. turn.items) run.turns.items ≡ map (turn_bytes version) (meeting version left right area)
  pub to_left : map value run.to_left.items ≡ to_left (meeting version left right area)
  pub to_right : map value run.to_right.items ≡ to_right (meeting version left right area)
  pub items : run.items ≡ counted (meeting version left right area)
