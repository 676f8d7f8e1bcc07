use Rattle.std.proofs.Common.{◌-◌, ◌≤◌, [], drop, length}
use Rattle.std.specs.List.{flat_map}
use Rattle.peer_rows.specs.Listed.{row_line}
use Rattle.peer_rows.specs.Writing.{IsWritingOut}
use Rattle.peer_rows.proofs.listing.write_lines.Given as goal

abbrev pub invariant-rounds : goal.invariant-rounds
invariant-rounds g l = record {
  within : l.made ≤ length l.rows;
  writing : IsWritingOut (g.O.Sink.facts l.fn.output) (g.O.Sink.facts l.output) (flat_map row_line l.rows) [] (flat_map row_line (drop l.made l.rows));
}

abbrev pub decreases-rounds : goal.decreases-rounds
decreases-rounds g l = length l.rows - l.made
