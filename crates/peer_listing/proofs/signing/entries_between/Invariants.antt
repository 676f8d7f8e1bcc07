use Rattle.std.proofs.Common.{◌≡◌}
use Rattle.peer_listing.specs.Ranges.{entries_between}
use Rattle.peer_listing.proofs.signing.entries_between.Given as goal

abbrev pub invariant-rows : goal.invariant-rows
invariant-rows l = l.entries.items ≡ entries_between l.from l.i
