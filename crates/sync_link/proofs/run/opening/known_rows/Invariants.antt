use Rattle.std.proofs.Common.{take}
use Rattle.std.specs.List.{AllByRecursion}
use Rattle.sync_link.proofs.Openings.{CanTell}
use Rattle.sync_link.proofs.run.opening.known_rows.Given as goal

abbrev pub invariant-loop-at : goal.invariant-loop-at
invariant-loop-at g l = AllByRecursion CanTell (take l.at l.rows)
