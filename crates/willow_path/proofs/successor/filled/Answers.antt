use Rattle.std.proofs.Common.{arith}
use Rattle.willow_path.proofs.PartSuccessor.{filled_is}
use Rattle.willow_path.proofs.successor.filled.Goals as goal

pub returns : goal.returns
returns c = rw c.copy_from_slice.ensures.after (filled_is 32 c.args.front.now c.args.last (omega arith))
