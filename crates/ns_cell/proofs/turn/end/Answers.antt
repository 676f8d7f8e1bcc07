use Rattle.std.proofs.Common.{[], ◌∷◌, None, Some, arith, sym, ap, ◌∙◌}
use Rattle.atomic_table.specs.Table.{rest}
use Rattle.log_rule.specs.Steps.{ticket_of, after_turn}
use Rattle.ns_cell.proofs.Steps.{may_hand_on}
use Rattle.ns_cell.proofs.turn.end.Goals as goal

pub exchange-requires : goal.exchange-requires
exchange-requires g c = (c.requires.table.0, (None, c.requires.holds.2 ∙ ap (λ l. (0, None) ∷ rest l) (sym c.requires.holds.2)))

pub fetch_add-requires : goal.fetch_add-requires
fetch_add-requires g c =
    let h = c.exchange.ensures in let l = c.requires.log in let words = c.requires.table.1 in
    let is = h.3 ∙ ap (λ k. (c.args.seat.now.me.0, (0, Some c.args.state) ∷ rest k)) c.requires.holds.2 in (
      h.0 ∙ c.requires.table.0,
      omega arith,
      may_hand_on g.R.Row.value _ _ _ (ticket_of c.args.seat.now.me.0.role) c.args.seat.now.me.0 c.args.state l.1 l.0 c.exchange.new.seat.me is c.requires.holds.0 c.requires.holds.1 l.2 l.3 l.4 c.requires.namespace c.requires.lawful,
    )

pub returns-clause-view : goal.returns-clause-view
returns-clause-view g c =
    let h = c.exchange.ensures in
    let is = h.3 ∙ ap (λ k. (c.args.seat.now.me.0, (0, Some c.args.state) ∷ rest k)) c.requires.holds.2 in
    c.fetch_add.ensures.2 c.args.state (ap (λ m. m.1) is) ∙ ap (λ m. (after_turn c.args.state.log m.0, [])) is
