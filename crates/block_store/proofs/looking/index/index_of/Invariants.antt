use Rattle.std.proofs.Common.{◌≡◌, length, take}
use Rattle.block_store.specs.Blocks.{block_rows}
use Rattle.block_store.proofs.looking.index.index_of.Given as goal

abbrev pub invariant-loop-at : goal.invariant-loop-at
invariant-loop-at g l = l.before ≡ length (block_rows (take l.at l.pieces))
