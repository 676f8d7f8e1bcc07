use Rattle.std.proofs.Common.{rules}
use mathlib.Core.Option.{none}
use Rattle.atomic_table.specs.Table.{step}
use Rattle.ns_state.specs.Log.{IsLog}
use Rattle.log_rule.proofs.Turns.{draws}
use Rattle.ns_cell.specs.Seats.{content}
use Rattle.ns_cell.proofs.Steps.{drew_waits, drew_view}
use Rattle.ns_cell.proofs.turn.draw.Goals as goal

pub fetch_add-requires : goal.fetch_add-requires
fetch_add-requires g c = (search rules, search rules, draws content (IsLog g.R.Row.value) _ _ _ _ c.requires.idle.0 c.requires.idle.1)

pub returns-clause-waits : goal.returns-clause-waits
returns-clause-waits g c = drew_waits (step 0 0 0 0 none) c.args.seat.now.me c.fetch_add.new.seat.me c.fetch_add.result c.fetch_add.ensures.2

pub returns-clause-view : goal.returns-clause-view
returns-clause-view g c = drew_view (step 0 0 0 0 none) c.args.seat.now.me c.fetch_add.new.seat.me c.fetch_add.result c.requires.idle.2 c.fetch_add.ensures.2
