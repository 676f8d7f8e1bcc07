-- What the nodes of a mesh promise of the rows that they hold.
use Rattle.std.specs.Prelude.{◌≡◌, ℕ, List, filter}
use Rattle.willow_area.specs.declared.area.Area.{Area}
use Rattle.willow_entry.specs.Row.{RowValue, HasCovering, live}
use Rattle.mesh_rules.specs.Events.{NodeEvent, offered_rows}
use Rattle.mesh_rules.specs.Reaching.{Reaches}
use Rattle.mesh_rules.specs.Laws.{AllReach}
use Rattle.mesh_core.specs.Areas.{has_row, IsOpenEnded}

-- these rows cover each row that reaches node i
abbrev pub CoversReached : List (NodeEvent Area) → ℕ → List RowValue → Type 0
CoversReached events i rows = (r : RowValue) → Reaches has_row events r i → HasCovering rows r

-- in each area with all paths and no end of times of which every row offered reaches node i, these rows are just what is live of all rows offered
abbrev pub HoldsAllOffered : List (NodeEvent Area) → ℕ → List RowValue → Type 0
HoldsAllOffered events i rows = (area : Area) → IsOpenEnded area → AllReach has_row events area i
    → filter (has_row area) rows ≡ filter (has_row area) (live (offered_rows events))

-- in each such area of which every row offered reaches both nodes i and j, these rows and those others are the same
abbrev pub HoldSame : List (NodeEvent Area) → ℕ → ℕ → List RowValue → List RowValue → Type 0
HoldSame events i j rows others = (area : Area) → IsOpenEnded area → AllReach has_row events area i → AllReach has_row events area j
    → filter (has_row area) rows ≡ filter (has_row area) others
