use Rattle.std.proofs.Common.{◌-◌, ◌≤◌, []}
use Rattle.peer_listing.specs.Ranges.{frames_between}
use Rattle.peer_rows.specs.Generate.{generated_frames}
use Rattle.peer_rows.specs.Writing.{IsWritingOut}
use Rattle.peer_rows.proofs.generating.write_rows.Given as goal

abbrev pub invariant-rounds : goal.invariant-rounds
invariant-rounds g l = record {
  within : l.made ≤ l.rows;
  writing : IsWritingOut (g.O.Sink.facts l.fn.output) (g.O.Sink.facts l.output) (generated_frames l.rows) [] (frames_between l.made l.rows);
}

abbrev pub decreases-rounds : goal.decreases-rounds
decreases-rounds g l = l.rows - l.made
