use Rattle.std.proofs.Common.{◌≡◌, map, take}
use Rattle.block_store.specs.InBox.{rows_in}
use Rattle.range_split.specs.Choice.{subspaces_of}
use Rattle.range_split.specs.Least.{least_above}
use Rattle.range_split.proofs.least.least_above.Given as goal

abbrev pub invariant-loop-at : goal.invariant-loop-at
invariant-loop-at g l = record { least_so_far : l.least ≡ least_above l.low (subspaces_of (rows_in l.area (take l.at (map g.R.Row.value l.snapshot)))) }
