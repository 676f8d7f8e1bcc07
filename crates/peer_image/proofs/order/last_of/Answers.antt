use Rattle.std.proofs.Common.{map, ap}
use Rattle.peer_image.proofs.OrderBehind.{empty, ended, mapped_end, last_of_first, last_of_second}
use Rattle.peer_image.proofs.order.last_of.Goals as goal

pub returns-in-Some : goal.returns-in-Some
returns-in-Some g c =
    let value = g.R.Row.value in
    let last = c.in-Some.last.now in
    last_of_second (map value c.args.earlier.now) (map value c.args.rows.now) (value last) (mapped_end value c.args.rows.now last (ended c.args.rows.now last c.in-Some.ensures.value))

pub returns-in-None : goal.returns-in-None
returns-in-None g c =
    let value = g.R.Row.value in
    last_of_first value c.args.earlier.now (map value c.args.rows.now) c.last-in-None.result (ap (map value) (empty c.args.rows.now c.in-None.ensures.value)) c.last-in-None.ensures.value
