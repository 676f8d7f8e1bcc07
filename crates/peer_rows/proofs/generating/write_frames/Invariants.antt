use Rattle.std.proofs.Common.{◌-◌, ◌≤◌}
use Rattle.peer_listing.specs.Ranges.{frames_between}
use Rattle.peer_rows.specs.Writing.{IsWritingOut}
use Rattle.peer_rows.proofs.generating.write_frames.Given as goal

abbrev pub invariant-rows : goal.invariant-rows
invariant-rows g l = record {
  within : l.made ≤ l.rows;
  writing : IsWritingOut (g.O.Sink.facts l.fn.output) (g.O.Sink.facts l.output) (frames_between l.from l.rows) l.piece.items (frames_between l.made l.rows);
}

abbrev pub decreases-rows : goal.decreases-rows
decreases-rows g l = l.rows - l.made
