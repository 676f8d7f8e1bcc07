use Rattle.std.proofs.Common.{arith}
use Rattle.willow_path.proofs.PathLimits.{room_of}
use Rattle.willow_path.proofs.path.Path.front.Goals as goal

pub add-requires : goal.add-requires
add-requires c = rw (c.loop-i.invariant, c.part.ensures) (room_of c.args.self.now c.loop-i.i c.requires.path (omega arith))
