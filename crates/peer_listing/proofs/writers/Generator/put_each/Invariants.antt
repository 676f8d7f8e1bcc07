use Rattle.std.proofs.Common.{◌≡◌, ◌++◌}
use Rattle.peer_listing.specs.Ranges.{frames_between}
use Rattle.peer_listing.proofs.writers.Generator.put_each.Given as goal

abbrev pub invariant-rows : goal.invariant-rows
invariant-rows l = l.out.items ≡ l.fn.out.items ++ frames_between l.from l.i
