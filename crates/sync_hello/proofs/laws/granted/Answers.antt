use Rattle.sync_hello.proofs.Granting.{asks_within, common_within}
use Rattle.sync_hello.proofs.laws.granted.Goals as goal

pub returns-clause-ask : goal.returns-clause-ask
returns-clause-ask c = asks_within

pub returns-clause-common : goal.returns-clause-common
returns-clause-common c = common_within
