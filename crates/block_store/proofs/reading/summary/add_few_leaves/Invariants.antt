use Rattle.std.proofs.Common.{◌≡◌, ◌++◌, map, take}
use Rattle.block_store.specs.Held.{values_of}
use Rattle.block_store.specs.Leaves.{row_leaf}
use Rattle.block_store.proofs.reading.summary.add_few_leaves.Given as goal

abbrev pub invariant-loop-at : goal.invariant-loop-at
invariant-loop-at g l = l.leaves.items ≡ l.fn.leaves.items ++ map row_leaf (values_of g.R.Row.value (take l.at l.rows))
