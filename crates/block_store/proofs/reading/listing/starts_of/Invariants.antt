use Rattle.std.proofs.Common.{◌≡◌, ℕ, ◌<◌, length, take, get_or, vec_len}
use Rattle.block_store.specs.Blocks.{block_rows}
use Rattle.block_store.proofs.reading.listing.starts_of.Given as goal

abbrev pub invariant-loop-i : goal.invariant-loop-i
invariant-loop-i g l = record {
  before : l.at ≡ length (block_rows (take l.i l.pieces));
  count : vec_len l.starts ≡ l.i;
  each : (k : ℕ) → k < l.i → get_or l.starts.items k 0 ≡ length (block_rows (take k l.pieces));
}
