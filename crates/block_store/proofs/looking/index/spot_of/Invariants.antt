use Rattle.std.proofs.Common.{◌≡◌, ◌+◌, length, take}
use Rattle.block_store.specs.Blocks.{block_rows}
use Rattle.block_store.proofs.looking.index.spot_of.Given as goal

abbrev pub invariant-loop-block : goal.invariant-loop-block
invariant-loop-block g l = length (block_rows (take l.block l.pieces)) + l.left ≡ l.at
