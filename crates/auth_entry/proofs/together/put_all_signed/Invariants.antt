use Rattle.std.proofs.Common.{◌≡◌, ◌+◌, length, sum}
use Rattle.auth_entry.proofs.together.put_all_signed.Given as goal

abbrev pub invariant-rows : goal.invariant-rows
invariant-rows l = record {
  each : length l.counts.items ≡ l.row-index;
  all : length l.signed.items ≡ length l.fn.signed.items + sum l.counts.items;
}
