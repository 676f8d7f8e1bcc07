-- What is kept of blocks.
use Rattle.std.specs.Prelude.{List, map}
use Rattle.lane_sum.specs.declared.lanes.Lanes.{Lanes}
use Rattle.willow_entry.specs.Row.{RowValue}
use Rattle.block_store.specs.Held.{values_of}
use Rattle.block_store.specs.Leaves.{summary_of}
use Rattle.block_store.specs.declared.block.Piece.{Piece}

-- the total of the rows of each block, and the leaf of each of them
abbrev pub summaries_of : {R : Type 0} {b : _} → (R → RowValue) → List (Piece R b) → List (Lanes × List Lanes)
summaries_of value pieces = map (λ p. summary_of (values_of value p.block.value.rows.items)) pieces
