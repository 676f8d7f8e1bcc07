use Rattle.std.proofs.Common.{take}
use Rattle.block_store.specs.Held.{values_of}
use Rattle.block_store.specs.Times.{AreWritten}
use Rattle.block_store.proofs.changing.enter.times.Given as goal

abbrev pub invariant-loop-at : goal.invariant-loop-at
invariant-loop-at g l = AreWritten l.earliest l.latest (take l.at (values_of g.R.Row.value l.rows))
