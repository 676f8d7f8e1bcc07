use Rattle.log_rule.proofs.Seats.{makes, lends}
use Rattle.log_rule.proofs.laws.split_seat.Goals as goal

pub returns-clause-makes : goal.returns-clause-makes
returns-clause-makes g c = λ content cell seat view idle parts maker. makes content g.L.Lawful.is_lawful cell seat view idle parts maker

pub returns-clause-lends : goal.returns-clause-lends
returns-clause-lends g c = λ content cell seat view part. lends content g.L.Lawful.is_lawful cell seat view part
