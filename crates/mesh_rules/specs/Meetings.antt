-- What is asked of meetings and of their areas.
use Rattle.std.specs.Prelude.{◌≡◌, ◌⊎◌, Bool, IsTrue, List, [], ◌∷◌, Contains, filter}
use Rattle.willow_entry.specs.Row.{RowValue, AreLive, Dominates, join}
use Rattle.mesh_rules.specs.Events.{Mesh, Nodes, NodeEvent, Offer, Meet, after_event}

-- a meeting of rows a and b makes up no row: each node holds its own rows and those of the other that the area includes,
-- or some of these
pub record MakesUpNoRow {X : Type 0} (m : Mesh X) (a b : List RowValue) (x : X) : Type 0 where
  pub left : (r : RowValue) → Contains (m.left a b x) r → Contains a r ⊎ (Contains b r × IsTrue (m.has x r))
  pub right : (r : RowValue) → Contains (m.right a b x) r → Contains b r ⊎ (Contains a r × IsTrue (m.has x r))

-- it leaves live rows to both nodes
pub record LeavesLive {X : Type 0} (m : Mesh X) (a b : List RowValue) (x : X) : Type 0 where
  pub left : AreLive (m.left a b x)
  pub right : AreLive (m.right a b x)

-- it leaves each node with the join of its rows and those of the other that the area includes
pub record IsExact {X : Type 0} (m : Mesh X) (a b : List RowValue) (x : X) : Type 0 where
  pub left : m.left a b x ≡ join a (filter (m.has x) b)
  pub right : m.right a b x ≡ join b (filter (m.has x) a)

-- the area includes each row that dominates one which it includes
abbrev pub IncludesDominating : {X : Type 0} → (X → RowValue → Bool) → X → Type 0
IncludesDominating has x = (r s : RowValue) → Dominates r s → IsTrue (has x s) → IsTrue (has x r)

-- where the event is a meeting, this is so of the rows that its nodes hold and of its area
abbrev pub IfMeeting : {X : Type 0} → (List RowValue → List RowValue → X → Type 0) → Nodes → NodeEvent X → Type 0
IfMeeting P s (Offer node r) = Unit {0}
IfMeeting P s (Meet left right x) = P (s left) (s right) x

-- this is so at each meeting of the events, where they begin with these nodes
abbrev pub EachMeeting : {X : Type 0} → (List RowValue → List RowValue → X → Type 0) → Mesh X → Nodes → List (NodeEvent X) → Type 0
EachMeeting P m s [] = Unit {0}
EachMeeting P m s (e ∷ es) = IfMeeting P s e × EachMeeting P m (after_event m s e) es
