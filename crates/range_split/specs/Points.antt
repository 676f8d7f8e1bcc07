-- Where a box can be cut: points of one of its dimensions.
use Rattle.std.specs.Prelude.{ℕ, List, map}
use Rattle.willow_area.specs.declared.cut.CutAt.{CutAt}
use Rattle.willow_area.specs.declared.cut.CutAt.TheVariants.{Subspace, Path, Time}

-- subspaces, paths or times, in the order in which they cut
pub data DimensionPoints : Type 0 where
  by_subspace : List (List ℕ) → DimensionPoints
  by_path : List (List (List ℕ)) → DimensionPoints
  by_time : List ℕ → DimensionPoints

-- the cuts at the points, one by one
abbrev pub cuts_at : DimensionPoints → List CutAt
cuts_at (by_subspace keys) = map (λ key. Subspace key) keys
cuts_at (by_path paths) = map (λ path. Path path) paths
cuts_at (by_time times) = map (λ time. Time time) times
