-- What stores in a list hold, as the nodes of a mesh.
use Rattle.std.specs.Prelude.{◌≡◌, ◌≢◌, ℕ, List, [], map, slice_index_or, slice_get, Some}
use Rattle.willow_entry.specs.Row.{RowValue}
use Rattle.cap_codec.specs.Rows.{RawValue, row_of}
use Rattle.mesh_rules.specs.Events.{Nodes}

-- the rows of each node are those of the store at its number; where there is no store, there are none
abbrev pub nodes_of : List (List RawValue) → Nodes
nodes_of stores i = map row_of (slice_index_or stores i [])

-- one node has these rows now, and each other one those that it had
pub record IsNodeSet (old : List (List RawValue)) (node : ℕ) (rows : List RowValue) (new : List (List RawValue)) : Type 0 where
  pub here : nodes_of new node ≡ rows
  pub others : (j : ℕ) → j ≢ node → nodes_of new j ≡ nodes_of old j

-- this is so of each node and its rows
abbrev pub EachNode : (ℕ → List RowValue → Type 0) → List (List RawValue) → Type 0
EachNode P stores = (i : ℕ) (rows : List RawValue) → slice_get stores i ≡ Some rows → P i (map row_of rows)

-- this is so of each two nodes and their rows
abbrev pub EachTwo : (ℕ → ℕ → List RowValue → List RowValue → Type 0) → List (List RawValue) → Type 0
EachTwo P stores = EachNode (λ i rows. EachNode (λ j others. P i j rows others) stores) stores
