use Rattle.std.proofs.Common.{take}
use Rattle.std.specs.List.{AllByRecursion}
use Rattle.cap_codec.specs.Rows.{IsRaw}
use Rattle.row_intake.proofs.known.known_raws.Given as goal

abbrev pub invariant-loop-row : goal.invariant-loop-row
invariant-loop-row l = AllByRecursion IsRaw (take l.row-index l.rows)
