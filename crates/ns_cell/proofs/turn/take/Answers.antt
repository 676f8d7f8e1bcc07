use Rattle.std.proofs.Common.{[], ◌∷◌, Some, rules, arith, sym, ap, ◌∙◌}
use mathlib.Core.Option.{none}
use Rattle.atomic_table.specs.Table.{step, rest}
use Rattle.ns_state.specs.Log.{IsLog}
use Rattle.log_rule.proofs.Turns.{looks}
use Rattle.ns_cell.specs.Seats.{content}
use Rattle.ns_cell.proofs.Steps.{looked_hit, out_of}
use Rattle.ns_cell.proofs.turn.take.Goals as goal

pub load-requires : goal.load-requires
load-requires g c = let words = c.requires.table.1 in (c.loop.invariant.0 ∙ c.requires.table.0, omega arith, looks content (IsLog g.R.Row.value) _ _ _ c.loop.seat.me c.requires.few)

pub exchange-requires : goal.exchange-requires
exchange-requires g c =
    let took = looked_hit (step c.args.top.now.table_id.slots 1 0 0 none) c.args.seat.now.me c.loop.seat.me c.load.new.seat.me c.args.ticket c.load.result c.loop.invariant.1 c.requires.waits.0 c.requires.waits.1 c.if-load-ticket.true c.load.ensures.2 in
    (c.load.ensures.0 ∙ (c.loop.invariant.0 ∙ c.requires.table.0), (Some took.0, took.1 ∙ ap (λ l. (0, Some took.0) ∷ rest l) (sym took.1)))

pub unwrap-requires : goal.unwrap-requires
unwrap-requires g c =
    let took = looked_hit (step c.args.top.now.table_id.slots 1 0 0 none) c.args.seat.now.me c.loop.seat.me c.load.new.seat.me c.args.ticket c.load.result c.loop.invariant.1 c.requires.waits.0 c.requires.waits.1 c.if-load-ticket.true c.load.ensures.2 in
    let out = out_of took.0 c.exchange.result c.load.new.seat.me.1 [] took.1 c.exchange.ensures.2 in rw out (search rules)
