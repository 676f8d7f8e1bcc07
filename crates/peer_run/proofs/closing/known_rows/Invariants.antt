use Rattle.std.proofs.Common.{take}
use Rattle.std.specs.List.{AllByRecursion}
use Rattle.sync_link.proofs.Openings.{CanTell}
use Rattle.peer_run.proofs.closing.known_rows.Given as goal

abbrev pub invariant-loop-at : goal.invariant-loop-at
invariant-loop-at l = AllByRecursion CanTell (take l.at l.rows)
