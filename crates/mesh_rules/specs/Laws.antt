-- What the laws of a mesh say, at whatever areas X there are.
use Rattle.std.specs.Prelude.{◌≡◌, ◌↔◌, ℕ, Bool, IsTrue, List, Contains, filter}
use Rattle.willow_entry.specs.Row.{RowValue, AreLive, HasCovering, live}
use Rattle.mesh_rules.specs.Events.{NodeEvent, Mesh, empty_nodes, node_rows, offered_rows}
use Rattle.mesh_rules.specs.Meetings.{MakesUpNoRow, LeavesLive, IsExact, IncludesDominating, EachMeeting}
use Rattle.mesh_rules.specs.Reaching.{Reaches}

-- ---- of any meetings

-- each of these rows reaches node i
abbrev pub HoldsOnlyReached : {X : Type 0} → (X → RowValue → Bool) → List (NodeEvent X) → ℕ → List RowValue → Type 0
HoldsOnlyReached has events i rows = (r : RowValue) → Contains rows r → Reaches has events r i

-- where no meeting of the run makes up a row, a node holds only rows that reach it
abbrev pub OnlyReachedAreHeld : Type 0 → Type 0
OnlyReachedAreHeld X = (m : Mesh X) (events : List (NodeEvent X)) → EachMeeting (MakesUpNoRow m) m empty_nodes events
    → (i : ℕ) → HoldsOnlyReached m.has events i (node_rows m events i)

-- where each meeting of the run leaves live rows, a node holds live rows
abbrev pub LiveAreHeld : Type 0 → Type 0
LiveAreHeld X = (m : Mesh X) (events : List (NodeEvent X)) → EachMeeting (LeavesLive m) m empty_nodes events
    → (i : ℕ) → AreLive (node_rows m events i)

-- an exact meeting makes up no row
abbrev pub ExactMakesUpNoRow : Type 0 → Type 0
ExactMakesUpNoRow X = (m : Mesh X) (a b : List RowValue) (x : X) → IsExact m a b x → MakesUpNoRow m a b x

-- and leaves live rows
abbrev pub ExactLeavesLive : Type 0 → Type 0
ExactLeavesLive X = (m : Mesh X) (a b : List RowValue) (x : X) → IsExact m a b x → LeavesLive m a b x

-- a row is offered just where there is a node that it reaches
abbrev pub OfferedReach : Type 0 → Type 0
OfferedReach X = (has : X → RowValue → Bool) (events : List (NodeEvent X)) (r : RowValue)
    → Contains (offered_rows events) r ↔ ((i : ℕ) × Reaches has events r i)

-- of the rows that reach a node there is a list
abbrev pub ReachingAreListed : Type 0 → Type 0
ReachingAreListed X = (has : X → RowValue → Bool) (events : List (NodeEvent X)) (i : ℕ)
    → (reached : List RowValue) × ((r : RowValue) → Contains reached r ↔ Reaches has events r i)

-- ---- of exact meetings

-- each meeting of the run is exact, and its area includes what dominates its rows
pub record IsExactRun {X : Type 0} (m : Mesh X) (events : List (NodeEvent X)) : Type 0 where
  pub exact : EachMeeting (IsExact m) m empty_nodes events
  pub areas : EachMeeting (λ a b x. IncludesDominating m.has x) m empty_nodes events

-- these rows are live, each reaches node i, and they cover all that do
pub record HoldsReached {X : Type 0} (has : X → RowValue → Bool) (events : List (NodeEvent X)) (i : ℕ) (rows : List RowValue) : Type 0 where
  pub live : AreLive rows
  pub only : HoldsOnlyReached has events i rows
  pub all : (r : RowValue) → Reaches has events r i → HasCovering rows r

-- so it is with each node of an exact run
abbrev pub ReachedAreHeld : Type 0 → Type 0
ReachedAreHeld X = (m : Mesh X) (events : List (NodeEvent X)) → IsExactRun m events → (i : ℕ) → HoldsReached m.has events i (node_rows m events i)

-- so a node of such a run holds just what is live of the rows that reach it, however these are listed
abbrev pub LiveOfReachedAreHeld : Type 0 → Type 0
LiveOfReachedAreHeld X = (m : Mesh X) (events : List (NodeEvent X)) → IsExactRun m events
    → (i : ℕ) (reached : List RowValue) → ((r : RowValue) → Contains reached r ↔ Reaches m.has events r i)
    → node_rows m events i ≡ live reached

-- ---- of areas that include what dominates their rows

-- each row that is offered and that the area includes reaches the node
abbrev pub AllReach : {X : Type 0} → (X → RowValue → Bool) → List (NodeEvent X) → X → ℕ → Type 0
AllReach has events x i = (r : RowValue) → Contains (offered_rows events) r → IsTrue (has x r) → Reaches has events r i

-- in each such area whose rows all reach node i, these rows are just what is live of all that are offered
abbrev pub HoldsLiveOfAreas : {X : Type 0} → (X → RowValue → Bool) → List (NodeEvent X) → ℕ → List RowValue → Type 0
HoldsLiveOfAreas {X} has events i rows = (x : X) → IncludesDominating has x → AllReach has events x i
    → filter (has x) rows ≡ filter (has x) (live (offered_rows events))

-- in each such area whose rows all reach both nodes i and j, these rows and those others are the same
abbrev pub HoldSameOfAreas : {X : Type 0} → (X → RowValue → Bool) → List (NodeEvent X) → ℕ → ℕ → List RowValue → List RowValue → Type 0
HoldSameOfAreas {X} has events i j rows others = (x : X) → IncludesDominating has x → AllReach has events x i → AllReach has events x j
    → filter (has x) rows ≡ filter (has x) others

-- so it is with the rows of each node of an exact run
abbrev pub LiveOfAreasAreHeld : Type 0 → Type 0
LiveOfAreasAreHeld X = (m : Mesh X) (events : List (NodeEvent X)) → IsExactRun m events
    → (i : ℕ) → HoldsLiveOfAreas m.has events i (node_rows m events i)

-- and with those of each two
abbrev pub SameOfAreasAreHeld : Type 0 → Type 0
SameOfAreasAreHeld X = (m : Mesh X) (events : List (NodeEvent X)) → IsExactRun m events
    → (i j : ℕ) → HoldSameOfAreas m.has events i j (node_rows m events i) (node_rows m events j)
