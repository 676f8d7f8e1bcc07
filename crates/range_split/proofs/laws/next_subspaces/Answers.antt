use Rattle.range_split.proofs.LeastKeys.{least_above_is, least_above_none}
use Rattle.range_split.proofs.laws.next_subspaces.Goals as goal

pub returns : goal.returns
returns c = record { some = least_above_is; none = least_above_none }
