-- A mesh to look at, and what happens in it.
use Rattle.std.specs.Prelude.{ℕ, Bool, true, List, [], ◌∷◌, ◌++◌, Option, Some, None, filter}
use Rattle.willow_entry.specs.Row.{RowValue, join}
use Rattle.willow_entry.specs.Entry.{same_bytes}
use Rattle.mesh_rules.specs.Events.{NodeEvent, Offer, Meet, Mesh}

-- an area is one subspace, or all of them
abbrev pub Subspace : Type 0
Subspace = Option (List ℕ)

abbrev pub includes : Subspace → RowValue → Bool
includes None r = true
includes (Some subspace) r = same_bytes r.entry.subspace subspace

-- two nodes that meet tell each other all that they have in the area
abbrev pub joining : Mesh Subspace
joining = record {
  has = includes;
  left = λ a b x. join a (filter (includes x) b);
  right = λ a b x. join b (filter (includes x) a);
}

-- node 0 is offered a row, and tells node 1, which then tells node 2
abbrev pub meets_in_order : RowValue → List (NodeEvent Subspace)
meets_in_order r = Offer 0 r ∷ Meet 0 1 None ∷ Meet 1 2 None ∷ []

-- nodes 1 and 2 meet before node 1 is told
abbrev pub meets_out_of_order : RowValue → List (NodeEvent Subspace)
meets_out_of_order r = Offer 0 r ∷ Meet 1 2 None ∷ Meet 0 1 None ∷ []

-- node 0 is offered a row, and meets node 1 over this subspace
abbrev pub meets_over : List ℕ → RowValue → List (NodeEvent Subspace)
meets_over subspace r = Offer 0 r ∷ Meet 0 1 (Some subspace) ∷ []

-- nodes 0 and 2 are offered a row each; node 1 meets the first of them and then the other
abbrev pub not_yet_told : RowValue → RowValue → List (NodeEvent Subspace)
not_yet_told r s = Offer 0 r ∷ Offer 2 s ∷ Meet 0 1 None ∷ Meet 1 2 None ∷ []

-- and then the first again
abbrev pub told_again : RowValue → RowValue → List (NodeEvent Subspace)
told_again r s = not_yet_told r s ++ Meet 0 1 None ∷ []
