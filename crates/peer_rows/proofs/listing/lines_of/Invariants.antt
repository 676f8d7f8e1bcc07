use Rattle.std.proofs.Common.{◌≡◌, flat_map, take}
use Rattle.peer_rows.specs.Listed.{row_line}
use Rattle.peer_rows.proofs.listing.lines_of.Given as goal

abbrev pub invariant-loop-row : goal.invariant-loop-row
invariant-loop-row l = l.lines.items ≡ flat_map row_line (take l.row-index l.rows)
