use Rattle.log_rule.proofs.Turns.{looks}
use Rattle.log_rule.proofs.laws.look.Goals as goal

pub returns : goal.returns
returns g c = λ content cell slots seat me few. looks content g.L.Lawful.is_lawful cell slots seat me few
