use Rattle.std.proofs.Common.{take}
use Rattle.std.specs.List.{AllByRecursion}
use Rattle.cap_codec.specs.Rows.{IsRaw}
use Rattle.peer_rows.proofs.feeding.known_rows.Given as goal

abbrev pub invariant-loop-row : goal.invariant-loop-row
invariant-loop-row l = AllByRecursion IsRaw (take l.row-index l.rows)
