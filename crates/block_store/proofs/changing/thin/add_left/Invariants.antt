use Rattle.std.proofs.Common.{◌≡◌, ◌+◌, ◌≤◌, ◌++◌, take, vec_len}
use Rattle.willow_entry.specs.Row.{left_of}
use Rattle.block_store.specs.Held.{values_of}
use Rattle.block_store.proofs.changing.thin.add_left.Given as goal

abbrev pub invariant-loop-at : goal.invariant-loop-at
invariant-loop-at g l = record {
  rows : values_of g.R.Row.value l.kept.items ≡ values_of g.R.Row.value l.initial.kept.items ++ left_of (g.R.Row.value l.row) (take l.at (values_of g.R.Row.value l.rows));
  few : vec_len l.kept ≤ vec_len l.initial.kept + l.at;
}
