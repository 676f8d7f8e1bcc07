use Rattle.std.proofs.Common.{◌≡◌, ◌++◌, take}
use Rattle.willow_entry.specs.Row.{left_of}
use Rattle.block_store.specs.Blocks.{block_values}
use Rattle.block_store.specs.Packing.{IsGrown}
use Rattle.block_store.proofs.changing.thin.add_thinned.Given as goal

abbrev pub invariant-loop-at : goal.invariant-loop-at
invariant-loop-at g l = record {
  values : block_values g.R.Row.value l.fresh.items ≡ block_values g.R.Row.value l.initial.fresh.items ++ left_of (g.R.Row.value l.row) (block_values g.R.Row.value (take l.at l.pieces));
  grown : IsGrown l.initial.fresh.items l.fresh.items;
}
