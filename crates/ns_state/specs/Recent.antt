-- What is live of a log by recency.
use Rattle.std.specs.Prelude.{List}
use Rattle.recency_index.specs.Recency.{newest}
use Rattle.recency_index.specs.Rows.{items_of}
use Rattle.recency_index.specs.declared.ranked.Ranked.{Ranked}
use Rattle.willow_entry.specs.declared.row.LogRow.{LogRow}
use Rattle.willow_entry.specs.Row.{RowValue, live}
use Rattle.ns_state.specs.Log.{values}

-- the items of what is live of a log, the most recent first
abbrev pub recent : {R : Type 0} → (R → RowValue) → List (LogRow R) → List Ranked
recent value log = newest (items_of (live (values value log)))
