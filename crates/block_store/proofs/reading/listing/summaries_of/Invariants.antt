use Rattle.std.proofs.Common.{◌≡◌, take}
use Rattle.block_store.specs.Summaries.{summaries_of}
use Rattle.block_store.proofs.reading.listing.summaries_of.Given as goal

abbrev pub invariant-loop-i : goal.invariant-loop-i
invariant-loop-i g l = l.summaries.items ≡ summaries_of g.R.Row.value (take l.i l.pieces)
