use Rattle.std.proofs.Common.{◌≡◌, ◌-◌, ◌≤◌}
use Rattle.peer_listing.specs.Ranges.{frames_between}
use Rattle.peer_rows.proofs.generating.make_share.Given as goal

abbrev pub invariant-rows : goal.invariant-rows
invariant-rows l = record {
  order : l.from ≤ l.made;
  within : l.made ≤ l.to;
  bytes : l.bytes.items ≡ frames_between l.from l.made;
}

abbrev pub decreases-rows : goal.decreases-rows
decreases-rows l = l.to - l.made
