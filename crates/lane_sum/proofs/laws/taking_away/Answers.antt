use Rattle.lane_sum.proofs.TotalLaws.{total_left}
use Rattle.lane_sum.proofs.laws.taking_away.Goals as goal

pub returns-clause-left : goal.returns-clause-left
returns-clause-left g c = λ row xs taken left p. total_left row xs taken left p
