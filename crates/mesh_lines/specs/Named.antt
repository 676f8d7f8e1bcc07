-- Which nodes and rows a line names.
use Rattle.std.specs.Prelude.{◌≢◌, ℕ, ◌<◌, ◌≤◌}
use Rattle.mesh_lines.specs.declared.line.MeshLine.{MeshLine}
use Rattle.mesh_lines.specs.declared.line.MeshLine.TheVariants.{Offer, Meet, Same}
use Rattle.mesh_lines.specs.declared.line.TheConstants.{LAST_ROW}

-- the nodes are among so many, the row is one that can be offered, and no node meets itself
abbrev pub NamesAmong : ℕ → MeshLine → Type 0
NamesAmong nodes (Offer node row) = (node < nodes) × (row ≤ LAST_ROW)
NamesAmong nodes (Meet left right subspace from) = (left < nodes) × (right < nodes) × (left ≢ right)
NamesAmong nodes (Same left right) = (left < nodes) × (right < nodes)
