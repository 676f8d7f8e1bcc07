use Rattle.std.proofs.Common.{◌≡◌, ◌+◌, ◌≤◌, [], length, vec_capacity}
use Rattle.log_rule.specs.Steps.{first_view}
use Rattle.ns_cell.specs.Passes.{new_passes}
use Rattle.ns_cell.specs.Seats.{cell_at}
use Rattle.ns_cell.proofs.making.make_passes.Given as goal

abbrev pub invariant-loop-number : goal.invariant-loop-number
invariant-loop-number g l =
    (l.seat.table_id ≡ l.fn.seat.table_id)
    × (l.seat.me ≡ (record (first_view l.fn.seat.me.0.cell l.fn.seat.me.0.seen) { parts = l.seat.me.0.parts; made = l.number }, []))
    × (l.seat.me.0.parts + l.number ≡ l.fn.passes + 1)
    × (length l.all.items + 1 ≡ l.number)
    × (l.fn.passes ≤ vec_capacity l.all)
    × (l.all.items ≡ new_passes (cell_at l.fn.seat.table_id l.fn.passes l.fn.seat.me.0.cell.namespace) l.fn.seat.me.0.seen 1 (length l.all.items))
