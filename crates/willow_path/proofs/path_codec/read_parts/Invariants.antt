use Rattle.willow_path.proofs.PathReading.{HasRead}
use Rattle.willow_path.proofs.path_codec.read_parts.Given as goal

abbrev pub invariant-loop-i : goal.invariant-loop-i
invariant-loop-i l = HasRead l.fn.input l.input l.count l.i l.room
