use Rattle.sync_pair.proofs.Agreeing.{few_counted}
use Rattle.sync_pair.proofs.laws.bound.Goals as goal

pub returns : goal.returns
returns c = few_counted
