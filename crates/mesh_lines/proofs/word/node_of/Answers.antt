use Rattle.std.proofs.Common.{arith}
use Rattle.peer_words.proofs.Numbers.{one_number}
use Rattle.mesh_lines.proofs.word.node_of.Goals as goal

pub returns-then-n-from : goal.returns-then-n-from
returns-then-n-from c node is = absurd (omega (arith, one_number c.args.word.now c.in_ok-n.n node c.in_ok-n.ensures is.number, is.among))
