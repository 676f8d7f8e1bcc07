use Rattle.peer_image.proofs.OrderBehind.{empty, ended}
use Rattle.peer_image.proofs.TwoReading.{above_none, above_tells}
use Rattle.peer_image.proofs.known.is_above.Goals as goal

pub returns-in-Some : goal.returns-in-Some
returns-in-Some c =
    let last = c.in-Some.last.now in
    above_tells c.args.told.now last c.args.next.now c.spelled.result.now c.spelled-in-Some.result.now c.cmp.result c.is_lt.result c.requires (ended c.args.told.now last c.in-Some.ensures.value)
    c.spelled.ensures c.spelled-in-Some.ensures c.cmp.ensures c.is_lt.ensures

pub returns-in-None : goal.returns-in-None
returns-in-None c = above_none c.args.told.now c.args.next.now (empty c.args.told.now c.in-None.ensures.value)
