use Rattle.std.proofs.Common.{◌≡◌, count_by, take}
use Rattle.willow_entry.specs.Row.{is_dominating}
use Rattle.block_store.specs.Blocks.{block_values}
use Rattle.block_store.proofs.changing.thin.pruned_in.Given as goal

abbrev pub invariant-loop-at : goal.invariant-loop-at
invariant-loop-at g l = record {
  counted : l.count ≡ count_by (is_dominating (g.R.Row.value l.row)) (block_values g.R.Row.value (take l.at l.pieces));
}
