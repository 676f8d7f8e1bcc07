-- What the nodes of a mesh go by.
use Rattle.std.specs.Prelude.{ℕ, List, [], Option, None}
use Rattle.willow_area.specs.declared.area.Area.{Area}
use Rattle.willow_entry.specs.Row.{RowValue}
use Rattle.mesh_rules.specs.Events.{Mesh}

-- what a meeting over an area leaves to its nodes, and which row each number names
pub record MeshRules : Type 0 where
  pub mesh : Mesh Area
  pub row : ℕ → RowValue

-- the area of a meeting: that of a subspace, or of all, with all paths, from a time on
abbrev pub line_area : Option (List ℕ) → ℕ → Area
line_area subspace from = record { subspace = subspace; path = []; times = record { start = from; end = None } }
