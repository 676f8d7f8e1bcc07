use Rattle.session_rules.proofs.Greeted.{out_is_exchange, got_is_exchange, ending_is_exchange}
use Rattle.session_rules.proofs.laws.goes_on_as_exchange.Goals as goal

pub returns-clause-out : goal.returns-clause-out
returns-clause-out g c = λ greeting k own offers hello proof bytes greets. out_is_exchange greeting k own offers hello proof greets bytes

pub returns-clause-got : goal.returns-clause-got
returns-clause-got g c = λ greeting k own offers hello proof bytes greets. got_is_exchange greeting k own offers hello proof greets bytes

pub returns-clause-ending : goal.returns-clause-ending
returns-clause-ending g c = λ greeting k own offers hello proof bytes greets. ending_is_exchange greeting k own offers hello proof greets bytes
