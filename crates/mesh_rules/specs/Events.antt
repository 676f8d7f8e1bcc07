-- What happens in a mesh of nodes, and what its nodes then hold: over any areas of which a test tells whether they include
-- a row, and over any meeting of two nodes.
use Rattle.std.specs.Prelude.{ℕ, ◌==◌, Bool, List, [], ◌∷◌, if◌then◌else◌}
use Rattle.willow_entry.specs.Row.{RowValue, join}

-- a row is offered to a node, or two nodes meet over an area, the first of them as the caller
pub data NodeEvent (X : Type 0) : Type 0 where
  Offer : ℕ → RowValue → NodeEvent X
  Meet : ℕ → ℕ → X → NodeEvent X

-- the rows of each node, by its number
abbrev pub Nodes : Type 0
Nodes = ℕ → List RowValue

-- What a mesh goes by: whether an area includes a row; and of the rows of a caller, those of the node that it meets, and an
-- area, what the caller holds behind their meeting and what the other does.
pub record Mesh (X : Type 0) : Type 0 where
  pub has : X → RowValue → Bool
  pub left : List RowValue → List RowValue → X → List RowValue
  pub right : List RowValue → List RowValue → X → List RowValue

-- The rows of each node behind an event: a node joins its rows with one that it is offered, two that meet hold what their
-- meeting leaves them, and all others hold what they did.
unfoldable pub after_event : {X : Type 0} → Mesh X → Nodes → NodeEvent X → Nodes
after_event m s (Offer node r) i = if i == node then join (s i) (r ∷ []) else s i
after_event m s (Meet left right x) i =
    if i == left then m.left (s left) (s right) x else (if i == right then m.right (s left) (s right) x else s i)

-- the rows of each node behind some events, one after the other
abbrev pub after_events : {X : Type 0} → Mesh X → Nodes → List (NodeEvent X) → Nodes
after_events m s [] = s
after_events m s (e ∷ es) = after_events m (after_event m s e) es

-- no node holds a row
abbrev pub empty_nodes : Nodes
empty_nodes i = []

-- the rows of a node behind all events of a run, which begins with empty nodes
abbrev pub node_rows : {X : Type 0} → Mesh X → List (NodeEvent X) → ℕ → List RowValue
node_rows m events i = after_events m empty_nodes events i

-- the rows that are offered, to whatever nodes, in order
abbrev pub offered_rows : {X : Type 0} → List (NodeEvent X) → List RowValue
offered_rows [] = []
offered_rows (Offer node r ∷ es) = r ∷ offered_rows es
offered_rows (Meet left right x ∷ es) = offered_rows es
