use Rattle.recency_index.proofs.Newest.{newest_holds}
use Rattle.recency_index.proofs.laws.newest_first.Goals as goal

pub returns-clause-members : goal.returns-clause-members
returns-clause-members c = newest_holds
