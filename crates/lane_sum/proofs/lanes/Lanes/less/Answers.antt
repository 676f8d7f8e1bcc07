use Rattle.std.proofs.Common.{rules}
use Rattle.lane_sum.proofs.Fields.{rest_then_sum}
use Rattle.lane_sum.proofs.lanes.Lanes.less.Goals as goal

pub returns-clause-undone : goal.returns-clause-undone
returns-clause-undone c = rest_then_sum c.args.self.now c.args.other.now
    (record { count = search rules; a = search rules; b = search rules; c = search rules; d = search rules })
    (record { count = search rules; a = search rules; b = search rules; c = search rules; d = search rules })
