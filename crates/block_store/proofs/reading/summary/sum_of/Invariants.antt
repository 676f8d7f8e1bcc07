use Rattle.std.proofs.Common.{◌≡◌, List, map, take}
use Rattle.lane_sum.specs.Totals.{total_by}
use Rattle.willow_entry.specs.Row.{RowValue}
use Rattle.block_store.specs.Fingerprint.{row_bytes}
use Rattle.block_store.specs.Leaves.{row_leaf}
use Rattle.block_store.proofs.reading.summary.sum_of.Given as goal

abbrev pub invariant-loop-at : goal.invariant-loop-at
invariant-loop-at l = (rows : List RowValue) → l.leaves ≡ map row_leaf rows → l.total ≡ total_by row_bytes (take l.at rows)
