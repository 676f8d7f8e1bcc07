use Rattle.log_rule.proofs.Seats.{joins}
use Rattle.log_rule.proofs.laws.join_seat.Goals as goal

pub returns : goal.returns
returns g c = λ content cell seat other view taken part idle taken_idle. joins content g.L.Lawful.is_lawful cell seat view other taken part idle taken_idle
