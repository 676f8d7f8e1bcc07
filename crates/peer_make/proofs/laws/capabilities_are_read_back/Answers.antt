use Rattle.peer_make.proofs.MadeBack.{capability_back}
use Rattle.peer_make.proofs.laws.capabilities_are_read_back.Goals as goal

pub returns-clause-back : goal.returns-clause-back
returns-clause-back c = capability_back
