-- What two sides hold behind a meeting, and boxes in which they come to agree.
use Rattle.std.specs.Prelude.{◌≡◌, ℕ, List, [], Option, None}
use Rattle.willow_area.specs.Boxes.{Ranges}
use Rattle.willow_entry.specs.Row.{RowValue, join}
use Rattle.exchange_rules.specs.Items.{to_left, to_right}
use Rattle.exchange_rules.specs.Exchange.{exchange}
use Rattle.sync_core.specs.SyncRules.{sync_rules}

-- in a session of a version the side that begins joins its rows a with those that it was sent
abbrev pub left_after : ℕ → List RowValue → List RowValue → Option Ranges → List RowValue
left_after version a b x = join a (to_left (exchange (sync_rules version) a b x))

-- the side that answers does so with its rows b
abbrev pub right_after : ℕ → List RowValue → List RowValue → Option Ranges → List RowValue
right_after version a b x = join b (to_right (exchange (sync_rules version) a b x))

-- The box has the paths from the shortest on, and its times have no end. A row that dominates one of the box stands at a
-- beginning of its path and is no older, so it is in the box too.
pub record IsSelfContained (x : Ranges) : Type 0 where
  pub paths : x.paths.start ≡ []
  pub times : x.times.end ≡ None
