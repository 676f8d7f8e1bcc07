use Rattle.std.proofs.Common.{◌≡◌, take}
use Rattle.block_store.specs.Held.{values_of}
use Rattle.recency_index.specs.Recency.{newest}
use Rattle.recency_index.specs.Rows.{items_of}
use Rattle.area_interest.proofs.index.index_of.Given as goal

abbrev pub invariant-loop-row : goal.invariant-loop-row
invariant-loop-row g l = l.index.items ≡ newest (items_of (take l.row-index (values_of g.R.Row.value l.rows)))
