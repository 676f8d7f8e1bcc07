use Rattle.lane_sum.proofs.TotalLaws.{fingerprint_none}
use Rattle.lane_sum.proofs.laws.nothing.Goals as goal

pub returns : goal.returns
returns c = fingerprint_none
