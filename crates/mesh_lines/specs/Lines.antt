-- One line of a mesh, without its newline. One space stands between two words.
use Rattle.std.specs.Prelude.{◌≡◌, ◌≢◌, ℕ, ◌<◌, List, ◌∷◌, ◌++◌, codes, Option}
use Rattle.peer_words.specs.Values.{IsAnyOrKey, IsNumber, IsNumberWithin}
use Rattle.mesh_lines.specs.declared.line.MeshLine.{MeshLine}
use Rattle.mesh_lines.specs.declared.line.MeshLine.TheVariants.{Offer, Meet, Same}
use Rattle.mesh_lines.specs.declared.line.TheConstants.{MOST_NODES, LAST_ROW}

-- the number of one of so many nodes, the first of which is 0
pub record IsNode (nodes : ℕ) (word : List ℕ) (node : ℕ) : Type 0 where
  pub number : IsNumber word node
  pub among : node < nodes

-- a node, and the number of a row
pub record AreOffer (nodes : ℕ) (words : List ℕ) (node row : ℕ) : Type 0 where
  pub i : List ℕ
  pub r : List ℕ
  pub spelled : words ≡ i ++ 32 ∷ r
  pub is_node : IsNode nodes i node
  pub is_row : IsNumberWithin 0 LAST_ROW r row

-- two nodes that are not the same, `any` or the key of a subspace, and a time
pub record AreMeet (nodes : ℕ) (words : List ℕ) (left right : ℕ) (subspace : Option (List ℕ)) (from : ℕ) : Type 0 where
  pub i : List ℕ
  pub j : List ℕ
  pub x : List ℕ
  pub t : List ℕ
  pub spelled : words ≡ i ++ 32 ∷ (j ++ 32 ∷ (x ++ 32 ∷ t))
  pub is_left : IsNode nodes i left
  pub is_right : IsNode nodes j right
  pub apart : left ≢ right
  pub is_subspace : IsAnyOrKey x subspace
  pub is_from : IsNumber t from

-- two nodes, which may be the same
pub record AreSame (nodes : ℕ) (words : List ℕ) (left right : ℕ) : Type 0 where
  pub i : List ℕ
  pub j : List ℕ
  pub spelled : words ≡ i ++ 32 ∷ j
  pub is_left : IsNode nodes i left
  pub is_right : IsNode nodes j right

-- `nodes`, and how many there are
pub record IsFirstLine (line : List ℕ) (nodes : ℕ) : Type 0 where
  pub n : List ℕ
  pub spelled : line ≡ codes "nodes " ++ n
  pub number : IsNumberWithin 1 MOST_NODES n nodes

-- `offer`, `meet` or `same`, and what belongs to it
abbrev pub IsLine : ℕ → List ℕ → MeshLine → Type 0
IsLine nodes line (Offer node row) = (words : List ℕ) × (line ≡ codes "offer " ++ words) × AreOffer nodes words node row
IsLine nodes line (Meet left right subspace from) = (words : List ℕ) × (line ≡ codes "meet " ++ words) × AreMeet nodes words left right subspace from
IsLine nodes line (Same left right) = (words : List ℕ) × (line ≡ codes "same " ++ words) × AreSame nodes words left right
