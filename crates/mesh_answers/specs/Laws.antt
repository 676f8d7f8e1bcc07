-- What the answers to lines keep.
use Rattle.std.specs.Prelude.{◌≡◌, ℕ, List, [], ◌∷◌, ◌++◌}
use Rattle.willow_area.specs.declared.area.Area.{Area}
use Rattle.mesh_rules.specs.Events as mesh
use Rattle.mesh_rules.specs.Events.{NodeEvent, Nodes, after_events, node_rows}
use Rattle.mesh_lines.specs.declared.line.MeshLine.{MeshLine}
use Rattle.mesh_lines.specs.declared.line.MeshLine.TheVariants.{Offer, Meet, Same}
use Rattle.mesh_answers.specs.Rules.{MeshRules, line_area}
use Rattle.mesh_answers.specs.Answers.{LinesAnswered, IsTextOf, node_lines}

-- the events that lines tell, in order
abbrev pub events_in : MeshRules → List MeshLine → List (NodeEvent Area)
events_in rules [] = []
events_in rules (Offer node row ∷ ls) = mesh.Offer node (rules.row row) ∷ events_in rules ls
events_in rules (Meet left right subspace from ∷ ls) = mesh.Meet left right (line_area subspace from) ∷ events_in rules ls
events_in rules (Same left right ∷ ls) = events_in rules ls

-- lines behind others are answered as from what the nodes hold behind the events of these
abbrev pub AnsweredByEvents : Type 0
AnsweredByEvents = (rules : MeshRules) (nodes : ℕ) (s : Nodes) (before ls : List MeshLine) (text : List ℕ) → LinesAnswered rules nodes s (before ++ ls) text
    → (front rest : List ℕ) × (text ≡ front ++ rest) × LinesAnswered rules nodes (after_events rules.mesh s (events_in rules before)) ls rest

-- at the end stand the rows of each node behind the run of all events
abbrev pub LastAreNodeRows : Type 0
LastAreNodeRows = (rules : MeshRules) (nodes : ℕ) (lines : List MeshLine) (text : List ℕ) → IsTextOf rules nodes lines text
    → (front : List ℕ) × (text ≡ front ++ node_lines (node_rows rules.mesh (events_in rules lines)) nodes)
