use Rattle.std.proofs.Common.{◌≡◌, map, take, filter, slice_get, Some}
use Rattle.willow_entry.specs.Row.{RowValue}
use Rattle.block_store.specs.InBox.{rows_in}
use Rattle.sync_core.proofs.Walking.{unsent}
use Rattle.sync_core.proofs.rows.positions_lacking.Given as goal

abbrev pub invariant-loop-at : goal.invariant-loop-at
invariant-loop-at g l = record { left : map (slice_get (map g.R.Row.value l.snapshot)) l.positions.items ≡ map (λ (r : RowValue). Some r) (filter (unsent l.sent) (take l.at-index (rows_in l.area (map g.R.Row.value l.snapshot)))) }
