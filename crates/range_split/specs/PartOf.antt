-- Which part a row is in, where rows are cut at points.
use Rattle.std.specs.Prelude.{ℕ, suc, List, [], ◌∷◌, if◌then◌else◌}
use Rattle.willow_area.specs.declared.cut.CutAt.{CutAt}
use Rattle.willow_entry.specs.Row.{RowValue}
use Rattle.range_split.specs.Sides.{is_row_below}

-- counted from 0: that which ends at the first of the points that the row is below, or the last one where there is none
abbrev pub part_of : List CutAt → RowValue → ℕ
part_of [] row = 0
part_of (at ∷ ats) row = if is_row_below at row then 0 else suc (part_of ats row)
