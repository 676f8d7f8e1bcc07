use Rattle.std.proofs.Common.{arith, ap, ◌∙◌}
use Rattle.ns_state.specs.Log.{IsLog}
use Rattle.log_rule.proofs.Turns.{looks}
use Rattle.log_rule.proofs.Seats.{lends, joins}
use Rattle.ns_cell.specs.Seats.{content}
use Rattle.ns_cell.proofs.meeting.learn_from.Goals as goal

pub split_seat-lent-requires : goal.split_seat-lent-requires
split_seat-lent-requires g c = (
  ap (λ p. p.cell.table) c.other.view_is ∙ c.requires.table.1,
  (let h = c.requires.table.2 in omega arith),
  lends content (IsLog g.R.Row.value) _ _ _ (let e = c.other.invariant.0.parts in omega arith),
)

pub join_seat-requires : goal.join_seat-requires
join_seat-requires g c = (
  ap (λ p. p.cell.table) c.one.view_is ∙ c.requires.table.0,
  c.split_seat-lent.ensures.3 ∙ (ap (λ p. p.cell.table) c.other.view_is ∙ c.requires.table.1),
  ap (λ m. m.1) c.split_seat-lent.ensures.4,
  (let h = c.requires.table.2 in omega arith),
  joins content (IsLog g.R.Row.value) _ _ _ _ _ (let e = c.one.invariant.0.parts in omega arith) c.one.invariant.0.role (ap (λ m. m.0.role) c.split_seat-lent.ensures.4),
)

pub load-requires : goal.load-requires
load-requires g c = (
  c.join_seat.ensures.0 ∙ (ap (λ p. p.cell.table) c.one.view_is ∙ c.requires.table.0),
  (let h = c.requires.table.2 in omega arith),
  looks content (IsLog g.R.Row.value) _ _ _ _ c.requires.few,
)
