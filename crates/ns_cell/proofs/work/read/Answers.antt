use Rattle.std.proofs.Common.{◌∙◌, [], append-nil}
use Rattle.ns_cell.specs.Seats.{IsTurned}
use Rattle.ns_cell.proofs.Turned.{turned_alike, no_further_rows}
use Rattle.ns_cell.proofs.work.read.Goals as goal

pub end-requires-clause-log : goal.end-requires-clause-log
end-requires-clause-log g c = no_further_rows g.R.Row.value c.args.number _ c.args.seat.now.me c.begin-state.new.seat.me.0 c.begin-state.result c.requires.rest c.begin-state.ensures.took

whole_turn : (g : _) (c : goal.After-end g) → IsTurned g.R.Row.value c.args.number [] c.args.seat.now.me c.end.new.seat.me
whole_turn g c =
    turned_alike g.R.Row.value c.args.number _ c.args.seat.now.me c.end.new.seat.me c.begin-state.new.seat.me.0 c.begin-state.result c.requires.rest c.begin-state.ensures.took c.front-front.ensures.log c.end.ensures.view

pub returns-clause-rest : goal.returns-clause-rest
returns-clause-rest g c = (whole_turn g c).rest

pub returns-clause-own : goal.returns-clause-own
returns-clause-own g c = (whole_turn g c).own ∙ append-nil _

pub returns-clause-turn : goal.returns-clause-turn
returns-clause-turn g c = (whole_turn g c).turns
