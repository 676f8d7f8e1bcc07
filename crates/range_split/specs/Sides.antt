-- What stands on the two sides of the points at which rows are cut.
use Rattle.std.specs.Prelude.{◌≡◌, ◌<◌, Bool, List, length, slice_get, All, Any, IsTrue, IfSome}
use Rattle.std.specs.List.Sorted.{IsStrictlySortedBy}
use Rattle.std.specs.Ordering.{nat_cmp}
use Rattle.willow_path.specs.Path.{path_cmp}
use Rattle.willow_area.specs.Boxes.{Ranges}
use Rattle.willow_area.specs.Cuts.{can_cut, lower_part, upper_part, is_below}
use Rattle.willow_area.specs.declared.cut.CutAt.{CutAt}
use Rattle.willow_area.specs.declared.cut.CutAt.TheVariants.{Subspace, Path, Time}
use Rattle.willow_entry.specs.Entry.{bytes_cmp}
use Rattle.willow_entry.specs.Row.{RowValue}
use Rattle.block_store.specs.InBox.{rows_in}
use Rattle.range_split.specs.Points.{DimensionPoints, by_subspace, by_path, by_time, cuts_at}

-- the row stands at the point itself
abbrev pub StandsAt : CutAt → RowValue → Type 0
StandsAt (Subspace key) row = row.entry.subspace ≡ key
StandsAt (Path path) row = row.entry.path ≡ path
StandsAt (Time time) row = row.entry.timestamp ≡ time

-- the row stands below the point
abbrev pub is_row_below : CutAt → RowValue → Bool
is_row_below at row = is_below at row.entry.subspace row.entry.path row.entry.timestamp

-- each point is above the one before it
abbrev pub AreRising : DimensionPoints → Type 0
AreRising (by_subspace keys) = IsStrictlySortedBy bytes_cmp keys
AreRising (by_path paths) = IsStrictlySortedBy path_cmp paths
AreRising (by_time times) = IsStrictlySortedBy nat_cmp times

-- The points rise. The first row is below each of them, and at each of them stands a row.
pub record PartRows (rows : List RowValue) (points : DimensionPoints) : Type 0 where
  pub rise : AreRising points
  pub first_below : All (λ at. IfSome (slice_get rows 0) (λ first. IsTrue (is_row_below at first))) (cuts_at points)
  pub rows_there : All (λ at. Any (StandsAt at) rows) (cuts_at points)

-- The box can be cut at the point, and both parts have rows: the lower part the first that the box includes, the
-- upper part one that stands at the point.
pub record LeavesRows (area : Ranges) (rows : List RowValue) (at : CutAt) : Type 0 where
  pub inside : IsTrue (can_cut area at)
  pub first_below : slice_get (rows_in (lower_part area at) rows) 0 ≡ slice_get (rows_in area rows) 0
  pub some_below : 0 < length (rows_in (lower_part area at) rows)
  pub one_there : Any (StandsAt at) (rows_in (upper_part area at) rows)
  pub some_above : 0 < length (rows_in (upper_part area at) rows)
