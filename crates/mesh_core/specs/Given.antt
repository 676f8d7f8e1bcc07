-- The events of a mesh whose rows are the generator's.
use Rattle.std.specs.Prelude.{◌≢◌, ℕ, ◌<◌, List, [], Option, None, map}
use Rattle.willow_area.specs.Area.{IsArea}
use Rattle.willow_area.specs.declared.area.Area.{Area}
use Rattle.cap_codec.specs.Rows.{row_of}
use Rattle.peer_listing.specs.Generator.{generated}
use Rattle.peer_listing.specs.declared.generator.TheConstants.{GENERATED_ROWS}
use Rattle.mesh_rules.specs.Events.{NodeEvent}
use Rattle.mesh_rules.specs.Events as mesh
use Rattle.mesh_core.specs.declared.event.MeshEvent.{MeshEvent}
use Rattle.mesh_core.specs.declared.event.MeshEvent.TheVariants.{Offer, Meet}

-- the area of a subspace, or of all, with all paths, from a time on
abbrev pub area_from : Option (List ℕ) → ℕ → Area
area_from subspace from = record { subspace = subspace; path = []; times = record { start = from; end = None } }

-- a node is offered a generated row, or two nodes meet over such an area
abbrev pub event_of : MeshEvent → NodeEvent Area
event_of (Offer node row) = mesh.Offer node (row_of (generated row))
event_of (Meet left right subspace from) = mesh.Meet left right (area_from subspace from)

abbrev pub events_of : List MeshEvent → List (NodeEvent Area)
events_of events = map event_of events

-- of so many nodes: their numbers are below that, the row is one of the generator, and no node meets itself
abbrev pub IsAmong : ℕ → MeshEvent → Type 0
IsAmong nodes (Offer node row) = (node < nodes) × (row < GENERATED_ROWS)
IsAmong nodes (Meet left right subspace from) = (left < nodes) × (right < nodes) × (left ≢ right)

-- the area of a meeting is within the limits
abbrev pub MeetsWithinLimits : MeshEvent → Type 0
MeetsWithinLimits (Offer node row) = Unit {0}
MeetsWithinLimits (Meet left right subspace from) = IsArea (area_from subspace from)
