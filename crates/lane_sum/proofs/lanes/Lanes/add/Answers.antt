use Rattle.std.proofs.Common.{rules}
use Rattle.lane_sum.proofs.Fields.{sum_then_rest}
use Rattle.lane_sum.proofs.lanes.Lanes.add.Goals as goal

pub returns-clause-undone : goal.returns-clause-undone
returns-clause-undone c = sum_then_rest c.args.self.now c.args.other.now
    (record { count = search rules; a = search rules; b = search rules; c = search rules; d = search rules })
    (record { count = search rules; a = search rules; b = search rules; c = search rules; d = search rules })
