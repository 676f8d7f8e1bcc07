use Rattle.std.proofs.Common.{◌≡◌, take}
use Rattle.block_store.specs.Blocks.{block_rows}
use Rattle.block_store.proofs.reading.listing.share.Given as goal

abbrev pub invariant-loop-i : goal.invariant-loop-i
invariant-loop-i g l = block_rows l.copy.items ≡ block_rows (take l.i l.pieces)
