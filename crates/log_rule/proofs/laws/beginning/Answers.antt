use Rattle.log_rule.proofs.Seats.{begins}
use Rattle.log_rule.proofs.laws.beginning.Goals as goal

pub returns : goal.returns
returns g c = λ content cell state own passes namespace lawful. begins content g.L.Lawful.is_lawful cell state own passes namespace lawful
