-- What each side of a meeting says by itself.
use Rattle.std.specs.Prelude.{◌≡◌, ℕ, List, Option}
use Rattle.willow_area.specs.Boxes.{Ranges}
use Rattle.willow_entry.specs.Row.{RowValue}
use Rattle.exchange_rules.specs.AnyPeer.{caller, answerer}
use Rattle.exchange_rules.specs.Items.{caller_turns, answerer_turns}
use Rattle.sync_core.specs.Flat.{TurnValue}
use Rattle.sync_core.specs.Place.{rows_of_area}
use Rattle.sync_core.specs.SyncRules.{sync_rules}
use Rattle.sync_pair.specs.Meeting.{meeting}

-- the turns of the side that calls, and those of the side that answers, each of which the other reads
abbrev pub left_turns : ℕ → List RowValue → List RowValue → Option Ranges → List TurnValue
left_turns version left right area = caller_turns (meeting version left right area)

abbrev pub right_turns : ℕ → List RowValue → List RowValue → Option Ranges → List TurnValue
right_turns version left right area = answerer_turns (meeting version left right area)

-- Each side by itself: what it says is what a side says that has only those of its rows that lie in the area, and reads these
-- turns.
pub record SayAlone (version : ℕ) (left right : List RowValue) (area : Option Ranges) : Type 0 where
  pub of_left : left_turns version left right area ≡ caller (sync_rules version) (rows_of_area area left) area (right_turns version left right area)
  pub of_right : right_turns version left right area ≡ answerer (sync_rules version) (rows_of_area area right) area (left_turns version left right area)
