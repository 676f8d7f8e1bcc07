-- The rows that a box includes.
use Rattle.std.specs.Prelude.{Bool, List, filter}
use Rattle.willow_area.specs.Boxes.{Ranges, in_box}
use Rattle.willow_entry.specs.Row.{RowValue}

-- the box includes the row's subspace, path and time
abbrev pub is_in : Ranges → RowValue → Bool
is_in area row = in_box area row.entry.subspace row.entry.path row.entry.timestamp

-- the rows that the box includes, in their order
abbrev pub rows_in : Ranges → List RowValue → List RowValue
rows_in area rows = filter (is_in area) rows
