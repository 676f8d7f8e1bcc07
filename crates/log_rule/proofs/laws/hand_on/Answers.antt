use Rattle.log_rule.proofs.Turns.{hands_on}
use Rattle.log_rule.proofs.laws.hand_on.Goals as goal

pub returns : goal.returns
returns g c = λ content cell slots seat ticket me state rows book holds carried part books longer own namespace lawful.
    hands_on content g.L.Lawful.is_lawful cell slots seat ticket me state rows book holds carried part books longer own namespace lawful
