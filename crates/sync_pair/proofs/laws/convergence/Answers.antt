use Rattle.sync_pair.proofs.Agreeing.{converges_left, converges_right}
use Rattle.sync_pair.proofs.laws.convergence.Goals as goal

pub returns-clause-left : goal.returns-clause-left
returns-clause-left c = converges_left

pub returns-clause-right : goal.returns-clause-right
returns-clause-right c = converges_right
