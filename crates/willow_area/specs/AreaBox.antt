-- The box of an area.
use Rattle.std.specs.Prelude.{ℕ, List, Option, Some, None, IsTrue, ◌↔◌, replicate}
use Rattle.willow_path.specs.Successor.{after, key_after}
use Rattle.willow_area.specs.Range.{Range}
use Rattle.willow_area.specs.Area.{in_area, IsTriple}
use Rattle.willow_area.specs.Boxes.{Ranges, in_box}
use Rattle.willow_area.specs.declared.area.Area.{Area}

-- all keys, or just this one
abbrev pub key_range : Option (List ℕ) → Range (List ℕ)
key_range None = record { start = replicate 33 0; end = None }
key_range (Some key) = record { start = key; end = key_after key }

-- the path and its extensions
abbrev pub path_range : List (List ℕ) → Range (List (List ℕ))
path_range path = record { start = path; end = after path }

-- the ranges of the subspaces, of the paths and of the times of an area
abbrev pub area_box : Area → Ranges
area_box area = record { keys = key_range area.subspace; paths = path_range area.path; times = area.times }

-- the box and the area include the same triples
abbrev pub HasTriplesOf : Ranges → Area → Type 0
HasTriplesOf ranges area = (subspace : List ℕ) (path : List (List ℕ)) (time : ℕ) → IsTriple subspace path time → IsTrue (in_box ranges subspace path time) ↔ IsTrue (in_area area subspace path time)
