use Rattle.std.proofs.Common.{◌++◌, map, ap}
use Rattle.peer_image.specs.Order.{IsInnerRising}
use Rattle.peer_image.proofs.OrderBehind.{empty, ended, mapped_end, rise_alone, rise_by_last, tells_as}
use Rattle.peer_image.proofs.order.rise_behind.Goals as goal

pub returns-in-Some : goal.returns-in-Some
returns-in-Some g c =
    let value = g.R.Row.value in
    let earlier = map value c.args.earlier.now in
    let rows = map value c.args.rows.now in
    let last = c.in-Some.last.now in
    tells_as c.fall_after.result c.is_none.result (IsInnerRising (earlier ++ rows)) c.is_none.ensures
    (rw c.fall_after.ensures (rise_by_last earlier rows (value last) c.requires.rising (mapped_end value c.args.earlier.now last (ended c.args.earlier.now last c.in-Some.ensures.value))))

pub returns-in-None : goal.returns-in-None
returns-in-None g c =
    let value = g.R.Row.value in
    let earlier = map value c.args.earlier.now in
    let rows = map value c.args.rows.now in
    tells_as c.first_fall.result c.is_none-in-None.result (IsInnerRising (earlier ++ rows)) c.is_none-in-None.ensures
    (rw c.first_fall.ensures (rise_alone earlier rows (ap (map value) (empty c.args.earlier.now c.in-None.ensures.value))))
