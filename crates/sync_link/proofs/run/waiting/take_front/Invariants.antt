use Rattle.std.proofs.Common.{◌≡◌, ◌+◌, ◌≤◌, ◌++◌, length}
use Rattle.sync_link.proofs.run.waiting.take_front.Given as goal

abbrev pub invariant-loop : goal.invariant-loop
invariant-loop l = record {
  front : l.fn.rows.items ≡ l.list.items ++ l.rows.items;
  taken : length l.list.items ≡ l.counter;
  left : l.count ≤ l.counter + length l.rows.items;
}
