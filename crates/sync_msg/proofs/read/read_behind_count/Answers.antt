use Rattle.std.proofs.Common.{arith}
use Rattle.sync_msg.specs.ItemReading.{part_point_at}
use Rattle.sync_msg.proofs.OneDimension.{many_whole}
use Rattle.sync_msg.proofs.read.read_behind_count.Goals as goal

pub returns-in_err-prints-clause-asked : goal.returns-in_err-prints-clause-asked
returns-in_err-prints-clause-asked g c = λ wants.
    many_whole (part_point_at c.args.dimension) c.args.count c.args.input.now c.in_ok-points.points c.read_points.new.input (omega arith) c.in_ok-points.ensures.gives
