use Rattle.std.proofs.Common.{◌≡◌, map, take}
use Rattle.block_store.specs.Held.{values_of}
use Rattle.block_store.specs.InBox.{rows_in}
use Rattle.area_interest.proofs.inside.rows_inside.Given as goal

abbrev pub invariant-loop-at : goal.invariant-loop-at
invariant-loop-at g l = values_of g.R.Row.value l.rows.items ≡ take l.at-index (rows_in l.area (map g.R.Row.value l.snapshot))
