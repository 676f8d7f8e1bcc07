use Rattle.std.proofs.Common.{ap}
use Rattle.ns_cell.proofs.Steps.{taken_from_draw}
use Rattle.ns_cell.proofs.turn.begin.Goals as goal

pub returns-clause-took : goal.returns-clause-took
returns-clause-took g c = taken_from_draw _ _ _ _ (ap (λ m. m.0) c.draw-ticket.ensures.view) c.take.ensures.took
