use Rattle.peer_image.proofs.Asking.{whole_asks}
use Rattle.peer_image.proofs.OneStops.{image_headed}
use Rattle.peer_image.proofs.read_one.read_image_one.Goals as goal

pub returns-in-Ok-clause-sure : goal.returns-in-Ok-clause-sure
returns-in-Ok-clause-sure c = λ want. image_headed c.args.bytes.now c.in-Ok.image.namespace c.in-Ok.image.rows.items c.in-Ok.ensures.rows

pub returns-in-Ok-clause-asked : goal.returns-in-Ok-clause-asked
returns-in-Ok-clause-asked c = λ want. whole_asks c.args.bytes.now c.in-Ok.image.namespace c.in-Ok.image.rows.items c.in-Ok.ensures.rows (c.in_order.ensures.some want)
