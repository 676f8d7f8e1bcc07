-- The mesh whose nodes exchange their rows when they meet.
use Rattle.std.specs.Prelude.{ℕ, List, Some}
use Rattle.willow_area.specs.AreaBox.{area_box}
use Rattle.willow_area.specs.declared.area.Area.{Area}
use Rattle.exchange_rules.specs.Exchange.{Apart}
use Rattle.sync_core.specs.SyncRules.{sync_rules}
use Rattle.sync_pair.specs.Agreement.{left_after, right_after}
use Rattle.mesh_rules.specs.Events.{NodeEvent, Mesh, empty_nodes}
use Rattle.mesh_rules.specs.Meetings.{EachMeeting}
use Rattle.mesh_core.specs.Areas.{has_row}

-- two nodes that meet hold then what an exchange of this version over the area leaves to each side, the first as the caller
abbrev pub exchanging : ℕ → Mesh Area
exchanging version = record {
  has = has_row;
  left = λ a b area. left_after version a b (Some (area_box area));
  right = λ a b area. right_after version a b (Some (area_box area));
}

-- at each meeting of the run the fingerprints of its exchange tell the rows of the two nodes apart
abbrev pub TellApart : ℕ → List (NodeEvent Area) → Type 0
TellApart version events = EachMeeting (λ a b area. Apart (sync_rules version) a b (area_box area)) (exchanging version) empty_nodes events
