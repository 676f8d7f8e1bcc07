use Rattle.std.proofs.Common.{◌≡◌, map, take}
use Rattle.block_store.specs.InBox.{rows_in}
use Rattle.range_split.specs.Quarters.{timestamps_of}
use Rattle.range_split.proofs.among.times_among.Given as goal

abbrev pub invariant-loop-n : goal.invariant-loop-n
invariant-loop-n g l = record { times_so_far : l.times.items ≡ timestamps_of (take l.n (rows_in l.area (map g.R.Row.value l.snapshot))) }
