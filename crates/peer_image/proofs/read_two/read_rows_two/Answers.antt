use Rattle.peer_image.proofs.TwoReading.{head_asks}
use Rattle.peer_image.proofs.read_two.read_rows_two.Goals as goal

pub returns-in-Some-clause-asked : goal.returns-in-Some-clause-asked
returns-in-Some-clause-asked c = λ want. head_asks c.args.bytes.now c.in-Some.head c.in-Some.behind.now c.in-Some.ensures.0 c.in-Some.ensures.1 (c.read_behind_head.ensures.asked want)
