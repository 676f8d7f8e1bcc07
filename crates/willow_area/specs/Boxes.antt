-- Boxes: a range of keys, a range of paths and a range of times.
use Rattle.std.specs.Prelude.{ℕ, Bool, ◌&&◌, List}
use Rattle.willow_path.specs.Path.{part_cmp, path_cmp}
use Rattle.willow_area.specs.Range.{Range, in_range, IsRising}
use Rattle.willow_area.specs.Times.{Times, in_times, IsTimes}

-- the three ranges of a box
pub record Ranges : Type 0 where
  pub keys : Range (List ℕ)
  pub paths : Range (List (List ℕ))
  pub times : Times

-- the box includes the triple: its three ranges do
unfoldable pub in_box : Ranges → List ℕ → List (List ℕ) → ℕ → Bool
in_box ranges subspace path time = in_range part_cmp ranges.keys subspace && (in_range path_cmp ranges.paths path && in_times ranges.times time)

-- each start is below its end
pub record IsBox (ranges : Ranges) : Type 0 where
  pub keys_rise : IsRising part_cmp ranges.keys
  pub paths_rise : IsRising path_cmp ranges.paths
  pub times_fit : IsTimes ranges.times
