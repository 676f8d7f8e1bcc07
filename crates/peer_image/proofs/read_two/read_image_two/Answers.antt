use Rattle.peer_image.proofs.TwoReading.{image_asks}
use Rattle.peer_image.proofs.read_two.read_image_two.Goals as goal

pub returns-in-Ok-clause-asked : goal.returns-in-Ok-clause-asked
returns-in-Ok-clause-asked c = λ want. image_asks c.args.bytes.now c.in-Ok.image.namespace c.in-Ok.image.rows.items c.in-Ok.ensures.rows (c.in_order_two.ensures.some want)
