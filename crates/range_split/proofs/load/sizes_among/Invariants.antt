use Rattle.std.proofs.Common.{◌≡◌, map, take}
use Rattle.block_store.specs.InBox.{rows_in}
use Rattle.range_split.specs.Quarters.{part_sizes}
use Rattle.range_split.proofs.load.sizes_among.Given as goal

abbrev pub invariant-loop-n : goal.invariant-loop-n
invariant-loop-n g l = record { sizes_so_far : l.sizes.items ≡ part_sizes l.points (take l.n (rows_in l.area (map g.R.Row.value l.snapshot))) }
