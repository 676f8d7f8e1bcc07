use Rattle.session_rules.proofs.Retelling.{said_retold, same_got, same_ending}
use Rattle.session_rules.proofs.laws.another_proof.Goals as goal

pub returns-clause-said : goal.returns-clause-said
returns-clause-said g c = λ greeting k own proof offers bytes. said_retold greeting k own proof offers bytes

pub returns-clause-got : goal.returns-clause-got
returns-clause-got g c = λ greeting k own proof offers bytes. same_got greeting k own proof offers bytes

pub returns-clause-ending : goal.returns-clause-ending
returns-clause-ending g c = λ greeting k own proof offers bytes. same_ending greeting k own proof offers bytes
