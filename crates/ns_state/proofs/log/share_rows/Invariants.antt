use Rattle.std.proofs.Common.{◌≡◌, map, take}
use Rattle.ns_state.specs.Log.{plain_row}
use Rattle.ns_state.proofs.log.share_rows.Given as goal

abbrev pub invariant-loop-at : goal.invariant-loop-at
invariant-loop-at g l = map plain_row l.rows.items ≡ map plain_row (take l.at l.log)
