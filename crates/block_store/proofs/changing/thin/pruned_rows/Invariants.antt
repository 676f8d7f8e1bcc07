use Rattle.std.proofs.Common.{◌≡◌, ◌≤◌, count_by, take}
use Rattle.willow_entry.specs.Row.{is_dominating}
use Rattle.block_store.specs.Held.{values_of}
use Rattle.block_store.proofs.changing.thin.pruned_rows.Given as goal

abbrev pub invariant-loop-at : goal.invariant-loop-at
invariant-loop-at g l = record {
  counted : l.count ≡ count_by (is_dominating (g.R.Row.value l.row)) (take l.at (values_of g.R.Row.value l.rows));
  few : l.count ≤ l.at;
}
