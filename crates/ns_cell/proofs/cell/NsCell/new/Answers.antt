use Rattle.std.proofs.Common.{◌≡◌, ◌∙◌, All, length, sym, ap, subst, arith}
use Rattle.ns_cell.specs.Passes.{IsPassOf}
use Rattle.ns_cell.specs.Seats.{cell_at}
use Rattle.ns_cell.proofs.NewPasses.{length-new_passes, all_of_cell}
use Rattle.ns_cell.proofs.cell.NsCell.new.Goals as goal

pub returns-clause-count : goal.returns-clause-count
returns-clause-count g c =
    let made = ap length c.in_ok-all.ensures in
    omega (arith, c.in_ok-all.all.ok.0, length-new_passes (cell_at c.in_ok-table.seat.table_id c.args.passes c.in_ok-table.seat.me.0.cell.namespace) c.in_ok-table.seat.me.0.seen 0 c.args.passes)

pub returns-clause-of_cell : goal.returns-clause-of_cell
returns-clause-of_cell g c =
    let made = cell_at c.in_ok-table.seat.table_id c.args.passes c.in_ok-table.seat.me.0.cell.namespace in
    let key = c.in_ok-table.table.shared.key in
    let space = ap (λ m. m.0.cell.namespace) c.in_ok-table.ensures.view ∙ ap (λ s. s.namespace) (sym c.in_ok-table.ensures.key.1) in
    let same : made ≡ cell_at c.in_ok-table.table.shared.table_id key.passes key.state.value.namespace =
    λ i. cell_at (c.in_ok-table.ensures.seat i) (sym c.in_ok-table.ensures.key.0 i) (space i) in
    subst (λ k. All (IsPassOf k) c.in_ok-all.all.items) same (all_of_cell made c.in_ok-table.seat.me.0.seen c.in_ok-all.all.items c.args.passes c.in_ok-all.ensures)
