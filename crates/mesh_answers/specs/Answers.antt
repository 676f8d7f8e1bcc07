-- What the lines of a mesh are answered.
use Rattle.std.specs.Prelude.{◌≡◌, ◌↔◌, ℕ, Bool, IsTrue, if◌then◌else◌, List, [], ◌∷◌, ◌++◌, codes, length}
use Rattle.std.specs.Fmt.{decimal}
use Rattle.std.specs.List.{flat_map, range_with_len}
use Rattle.mesh_rules.specs.Events as mesh
use Rattle.mesh_rules.specs.Events.{Nodes, after_event, empty_nodes}
use Rattle.mesh_lines.specs.declared.line.MeshLine.{MeshLine}
use Rattle.mesh_lines.specs.declared.line.MeshLine.TheVariants.{Offer, Meet, Same}
use Rattle.mesh_answers.specs.Rules.{MeshRules, line_area}

-- ---- the lines that are written

abbrev pub yes_or_no : Bool → List ℕ
yes_or_no same = if same then codes "yes" else codes "no"

-- `same I J yes` or `same I J no`
abbrev pub same_line : ℕ → ℕ → Bool → List ℕ
same_line left right same = codes "same " ++ (decimal left ++ (codes " " ++ (decimal right ++ (codes " " ++ (yes_or_no same ++ codes "\n")))))

-- `node I rows C`
abbrev pub node_line : ℕ → ℕ → List ℕ
node_line node rows = codes "node " ++ (decimal node ++ (codes " rows " ++ (decimal rows ++ codes "\n")))

-- how many rows each of so many nodes holds, from node 0 on
abbrev pub node_lines : Nodes → ℕ → List ℕ
node_lines s nodes = flat_map (λ i. node_line i (length (s i))) (range_with_len 0 nodes)

-- ---- the text of the lines that are read

module _ (rules : MeshRules) (nodes : ℕ) where
  -- Where the nodes hold these rows, the lines are answered so: an event goes before what is behind it, each question is
  -- answered by what two nodes hold then, and at the end all nodes are told.
  abbrev pub LinesAnswered : Nodes → List MeshLine → List ℕ → Type 0
  LinesAnswered s [] text = text ≡ node_lines s nodes
  LinesAnswered s (Offer node row ∷ ls) text = LinesAnswered (after_event rules.mesh s (mesh.Offer node (rules.row row))) ls text
  LinesAnswered s (Meet left right subspace from ∷ ls) text = LinesAnswered (after_event rules.mesh s (mesh.Meet left right (line_area subspace from))) ls text
  LinesAnswered s (Same left right ∷ ls) text =
      (same : Bool) × (rest : List ℕ) × (IsTrue same ↔ (s left ≡ s right)) × (text ≡ same_line left right same ++ rest) × LinesAnswered s ls rest

-- so are the lines of a mesh, whose nodes hold nothing at first
abbrev pub IsTextOf : MeshRules → ℕ → List MeshLine → List ℕ → Type 0
IsTextOf rules nodes lines text = LinesAnswered rules nodes empty_nodes lines text

-- ---- one line after the other

-- one line more was answered: what was written for it goes before what is behind it
pub record IsLineAnswered (rules : MeshRules) (s s' : Nodes) (l : MeshLine) (before now : List ℕ) : Type 0 where
  pub piece : List ℕ
  pub written : now ≡ before ++ piece
  pub goes_on : (nodes : ℕ) (ls : List MeshLine) (rest : List ℕ) → LinesAnswered rules nodes s' ls rest → LinesAnswered rules nodes s (l ∷ ls) (piece ++ rest)
