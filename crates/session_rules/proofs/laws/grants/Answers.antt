use Rattle.session_rules.specs.Greeting.{agreed_with}
use Rattle.session_rules.specs.Session.{rows_offered}
use Rattle.session_rules.proofs.Sessions.{items_granted, rows_granted, proofs_granted}
use Rattle.session_rules.proofs.laws.grants.Goals as goal

pub returns-clause-items : goal.returns-clause-items
returns-clause-items g c = items_granted

pub returns-clause-rows : goal.returns-clause-rows
returns-clause-rows g c = rows_granted

pub returns-clause-told : goal.returns-clause-told
returns-clause-told g c = λ greeting k own offers bytes item row own_alone said is.
    let granted = items_granted greeting k own offers bytes item said in
    let hello = granted.0.hello in
    (granted.0, own_alone own.role (rows_offered greeting own offers hello) (agreed_with greeting own hello) granted.0.behind item row granted.1 is)

pub returns-clause-proofs : goal.returns-clause-proofs
returns-clause-proofs g c = proofs_granted
