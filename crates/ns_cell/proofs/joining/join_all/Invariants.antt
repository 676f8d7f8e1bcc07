use Rattle.std.proofs.Common.{◌≡◌, ◌<◌, ◌++◌, List, [], length, vec_len}
use Rattle.ns_cell.specs.Passes.{PassValue}
use Rattle.ns_cell.specs.Seats.{cell_at}
use Rattle.ns_cell.specs.Joined.{IsJoined}
use Rattle.ns_cell.proofs.joining.join_all.Given as goal

abbrev pub invariant-loop-pass : goal.invariant-loop-pass
invariant-loop-pass g l =
    (l.seat.table_id ≡ l.fn.top.table_id) × (l.seat.me.1 ≡ [])
    × ((gone : List (PassValue g.row.R.Denot)) × (l.fn.passes.items ≡ l.passes.items ++ gone) × (0 < length gone)
    × IsJoined g.R.Row.value (cell_at l.fn.top.table_id l.fn.top.key.passes l.fn.top.key.state.value.namespace) gone l.seat.me.0)

abbrev pub decreases-loop-pass : goal.decreases-loop-pass
decreases-loop-pass g l = vec_len l.passes
