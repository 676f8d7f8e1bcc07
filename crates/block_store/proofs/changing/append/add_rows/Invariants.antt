use Rattle.std.proofs.Common.{◌≡◌, ◌+◌, ◌++◌, take, vec_len}
use Rattle.block_store.specs.Held.{values_of}
use Rattle.block_store.proofs.changing.append.add_rows.Given as goal

abbrev pub invariant-loop-at : goal.invariant-loop-at
invariant-loop-at g l = record {
  rows : values_of g.R.Row.value l.all.items ≡ values_of g.R.Row.value l.initial.all.items ++ take l.at (values_of g.R.Row.value l.rows);
  more : vec_len l.all ≡ vec_len l.initial.all + l.at;
}
