use Rattle.std.proofs.Common.{◌≡◌, map, take}
use Rattle.block_store.specs.InBox.{rows_in}
use Rattle.range_split.specs.Choice.{subspaces_of}
use Rattle.range_split.specs.Least.{least_above}
use Rattle.range_split.proofs.among.least_among.Given as goal

abbrev pub invariant-loop-n : goal.invariant-loop-n
invariant-loop-n g l = record { least_so_far : l.least ≡ least_above l.low (subspaces_of (take l.n (rows_in l.area (map g.R.Row.value l.snapshot)))) }
