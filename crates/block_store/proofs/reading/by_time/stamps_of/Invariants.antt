use Rattle.std.proofs.Common.{◌≡◌, map}
use Rattle.std.specs.List.{range_with_len}
use Rattle.block_store.specs.Blocks.{block_values}
use Rattle.block_store.specs.ByTime.{time_at}
use Rattle.block_store.proofs.reading.by_time.stamps_of.Given as goal

abbrev pub invariant-loop-at : goal.invariant-loop-at
invariant-loop-at g l = l.stamps.items ≡ map (λ at. (time_at (block_values g.R.Row.value l.listing.pieces.items) at, at)) (range_with_len 0 l.at)
