use Rattle.std.proofs.Common.{◌≡◌, ◌≤◌}
use Rattle.std.specs.Vec.Iter.{into_iter_items}
use Rattle.peer_listing.specs.Ranges.{entries_between, generated_between}
use Rattle.peer_listing.proofs.writers.Generator.rows_of.Given as goal

abbrev pub invariant-entries : goal.invariant-entries
invariant-entries l = record {
  up : l.from ≤ l.i;
  within : l.i ≤ l.to;
  made : l.rows.items ≡ generated_between l.from l.i;
  left : into_iter_items l.entry-iterator ≡ entries_between l.i l.to;
}
