-- What inclusion and intersection mean, told by the triples that the areas include.
use Rattle.std.specs.Prelude.{ℕ, List, IsTrue, ◌↔◌}
use Rattle.willow_area.specs.Area.{in_area, IsTriple}
use Rattle.willow_area.specs.declared.area.Area.{Area}

-- each triple of the second area is in the first
abbrev pub Includes : Area → Area → Type 0
Includes area other = (subspace : List ℕ) (path : List (List ℕ)) (time : ℕ) → IsTriple subspace path time → IsTrue (in_area other subspace path time) → IsTrue (in_area area subspace path time)

-- no triple is in both areas
abbrev pub AreApart : Area → Area → Type 0
AreApart area other = (subspace : List ℕ) (path : List (List ℕ)) (time : ℕ) → IsTriple subspace path time → IsTrue (in_area area subspace path time) → IsTrue (in_area other subspace path time) → ⊥

-- the first area has exactly the triples that are in both others
abbrev pub HasTriplesOfBoth : Area → Area → Area → Type 0
HasTriplesOfBoth both area other = (subspace : List ℕ) (path : List (List ℕ)) (time : ℕ) → IsTrue (in_area both subspace path time) ↔ (IsTrue (in_area area subspace path time) × IsTrue (in_area other subspace path time))
