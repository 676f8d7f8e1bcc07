use Rattle.std.proofs.Common.{ap}
use Rattle.lane_sum.specs.Totals.{finish_of}
use Rattle.lane_sum.proofs.TotalLaws.{total_moved}
use Rattle.lane_sum.proofs.laws.order_is_free.Goals as goal

pub returns-clause-total : goal.returns-clause-total
returns-clause-total g c = λ row xs ys p. total_moved row xs ys p

pub returns-clause-fingerprint : goal.returns-clause-fingerprint
returns-clause-fingerprint g c = λ row xs ys p. ap finish_of (total_moved row xs ys p)
