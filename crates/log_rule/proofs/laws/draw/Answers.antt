use Rattle.log_rule.proofs.Turns.{draws}
use Rattle.log_rule.proofs.laws.draw.Goals as goal

pub returns : goal.returns
returns g c = λ content cell slots seat me idle part. draws content g.L.Lawful.is_lawful cell slots seat me idle part
