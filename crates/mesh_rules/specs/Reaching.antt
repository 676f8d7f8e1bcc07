-- Which nodes a row reaches that is offered to one of them.
use Rattle.std.specs.Prelude.{◌≡◌, ℕ, suc, ◌≤◌, ◌⊎◌, Bool, IsTrue, List, [], ◌∷◌, Some, slice_get}
use Rattle.willow_entry.specs.Row.{RowValue}
use Rattle.mesh_rules.specs.Events.{NodeEvent, Offer, Meet}

module _ {X : Type 0} (has : X → RowValue → Bool) where
  -- nodes i and k meet, whichever of them calls, over an area that includes the row
  abbrev pub TakesTo : RowValue → ℕ → ℕ → NodeEvent X → Type 0
  TakesTo r i k (Offer node s) = ⊥
  TakesTo r i k (Meet left right x) = ((i ≡ left) × (k ≡ right) ⊎ (i ≡ right) × (k ≡ left)) × IsTrue (has x r)

  -- they do so at this place of the events
  abbrev pub TakesAt : List (NodeEvent X) → ℕ → RowValue → ℕ → ℕ → Type 0
  TakesAt events place r i k = (e : NodeEvent X) × (slice_get events place ≡ Some e) × TakesTo r i k e

  -- The meetings at these places lead the row from node i to node j. The places rise, and none is before the first that
  -- may be. No place at all leads from a node to itself.
  abbrev pub LeadsTo : List (NodeEvent X) → RowValue → ℕ → ℕ → List ℕ → ℕ → Type 0
  LeadsTo events r first i [] j = i ≡ j
  LeadsTo events r first i (place ∷ places) j = (first ≤ place) × ((k : ℕ) × TakesAt events place r i k × LeadsTo events r (suc place) k places j)

  -- the row is offered to a node at some place, and meetings at places behind it lead the row from there to node j
  abbrev pub Reaches : List (NodeEvent X) → RowValue → ℕ → Type 0
  Reaches events r j =
      (place : ℕ) × (node : ℕ) × (slice_get events place ≡ Some (Offer node r)) × ((places : List ℕ) × LeadsTo events r (suc place) node places j)
