use Rattle.std.proofs.Common.{arith}
use Rattle.link_arena.proofs.Takes.{least_here, least_left, ready_left}
use Rattle.link_arena.proofs.Parts.{parted, lower}
use Rattle.link_arena.proofs.Orders.{precedes_strict}
use Rattle.link_arena.proofs.take.+take_least.Goals as goal

pub take_least-least-requires : goal.take_least-least-requires
take_least-least-requires g t c κs within =
    let p = parted _ _ _ _ _ c.requires.1 in
    let link = rw c.link_at-link.ensures at c.in-Some.is in
    let low = rw link at (lower _ _ _ _ _ p).0 in
    let d = c.decreases in
    (omega arith, (within, (_, rw link at p.before_is)))

pub returns-in-None-clause-out : goal.returns-in-None-clause-out
returns-in-None-clause-out g t c = λ tree is. rw c.link_at-link.ensures (least_here _ _ _ _ tree (rw c.link_at-link.ensures at c.in-None.is) is)

pub returns-in-Some-clause-out : goal.returns-in-Some-clause-out
returns-in-Some-clause-out g t c = λ tree is.
    let p = parted _ _ _ _ tree is in
    let link = rw c.link_at-link.ensures at c.in-Some.is in
    let strict = precedes_strict _ _ (g.met.T.Twice.total c.args.order) in
    let o = c.take_least-least.ensures.out p.before (rw link at p.before_is) in
    let w = c.weave.ensures.woven o.out.tree p.after (rw (c.take_least-least.auto.slots, c.link_at-link.ensures) (ready_left _ _ _ _ _ _ tree _ is p o.out)) in
    least_left _ strict _ _ _ _ _ _ tree _ _ is p o w
