use Rattle.std.proofs.Common.{◌≡◌, take}
use Rattle.willow_entry.specs.Row.{is_dominating}
use Rattle.block_store.specs.Blocks.{block_values, index_of, IsSpot}
use Rattle.block_store.specs.Positions.{positions}
use Rattle.block_store.proofs.changing.offer.dominated_from.Given as goal

abbrev pub invariant-loop-at : goal.invariant-loop-at
invariant-loop-at g l = record {
  spot : IsSpot l.pieces l.spot;
  index : index_of l.pieces l.spot ≡ l.at;
  found : l.found.items ≡ positions (is_dominating (g.R.Row.value l.row)) (take l.at (block_values g.R.Row.value l.pieces));
}
