use Rattle.std.proofs.Common.{arith}
use Rattle.peer_words.proofs.Numbers.{too_low, too_high}
use Rattle.mesh_lines.proofs.word.number_within.Goals as goal

pub returns-then-n-from : goal.returns-then-n-from
returns-then-n-from c = too_low c.args.least c.args.most c.args.word.now c.in_ok-n.n (c.in_ok-n.ensures) (omega arith)

pub returns-then-from-n : goal.returns-then-from-n
returns-then-from-n c = too_high c.args.least c.args.most c.args.word.now c.in_ok-n.n (c.in_ok-n.ensures) (omega arith)
