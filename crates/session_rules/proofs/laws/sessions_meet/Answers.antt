use Rattle.session_rules.proofs.Settling.{session_rounds, are_settled, sessions_do_meet}
use Rattle.session_rules.proofs.laws.sessions_meet.Goals as goal

pub returns-clause-rounds : goal.returns-clause-rounds
returns-clause-rounds g c = λ p n greet. session_rounds p greet n

pub returns-clause-settled : goal.returns-clause-settled
returns-clause-settled g c = λ p n left right greet can over meet. are_settled p greet n can over left right meet

pub returns-clause-they_meet : goal.returns-clause-they_meet
returns-clause-they_meet g c = λ p n greet can over. sessions_do_meet p greet n can over
