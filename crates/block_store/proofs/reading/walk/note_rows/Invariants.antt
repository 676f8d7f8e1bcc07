use Rattle.std.proofs.Common.{◌≡◌, ◌++◌, take}
use Rattle.block_store.specs.Held.{values_of}
use Rattle.block_store.specs.InBox.{is_in}
use Rattle.block_store.specs.Positions.{positions_from}
use Rattle.block_store.proofs.reading.walk.note_rows.Given as goal

abbrev pub invariant-loop-at : goal.invariant-loop-at
invariant-loop-at g l = l.found.items ≡ l.fn.found.items ++ positions_from (is_in l.area) l.start (take l.at (values_of g.R.Row.value l.rows))
