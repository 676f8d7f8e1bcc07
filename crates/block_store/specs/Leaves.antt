-- What is kept of the rows of a block.
use Rattle.std.specs.Prelude.{List, [], ◌∷◌, map}
use Rattle.lane_sum.specs.Totals.{total_by}
use Rattle.lane_sum.specs.declared.lanes.Lanes.{Lanes}
use Rattle.willow_entry.specs.Row.{RowValue}
use Rattle.block_store.specs.Fingerprint.{row_bytes}

-- the leaf of a row, as the total of that row alone
abbrev pub row_leaf : RowValue → Lanes
row_leaf row = total_by row_bytes (row ∷ [])

-- the total of rows, and the leaf of each
abbrev pub summary_of : List RowValue → Lanes × List Lanes
summary_of rows = (total_by row_bytes rows, map row_leaf rows)
