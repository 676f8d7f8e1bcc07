use Rattle.std.proofs.Common.{◌≤◌}
use Rattle.block_store.proofs.reading.by_time.is_short.Given as goal

abbrev pub invariant-loop-i : goal.invariant-loop-i
invariant-loop-i g l = l.looks ≤ l.most
