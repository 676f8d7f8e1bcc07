use Rattle.session_rules.proofs.Sessions.{rows_exchanged, rows_few}
use Rattle.session_rules.proofs.laws.each_row_once.Goals as goal

pub returns-clause-exchange : goal.returns-clause-exchange
returns-clause-exchange g c = rows_exchanged

pub returns-clause-few : goal.returns-clause-few
returns-clause-few g c = λ greeting k own offers bytes no_more. rows_few greeting k own offers no_more bytes
