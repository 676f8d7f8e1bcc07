use Rattle.std.proofs.Common.{arith}
use Rattle.link_arena.proofs.Takes.{can_left, can_right, ready_left, ready_right, out_left, out_right, nothing}
use Rattle.link_arena.proofs.Parts.{parted, lower}
use Rattle.link_arena.proofs.Orders.{precedes_strict}
use Rattle.link_arena.proofs.take.+take.Goals as goal

pub returns-in_default-clause-out : goal.returns-in_default-clause-out
returns-in_default-clause-out g t c = λ tree can. absurd (nothing _ _ _ _ _ tree c.in_default.is can)

pub take-left-requires : goal.take-left-requires
take-left-requires g t c κs within =
    let can = rw c.in-Some.is at c.requires.1 in
    let p = parted _ _ _ _ _ can.tree in
    let low = (lower _ _ _ _ _ p).0 in
    let d = rw c.in-Some.is at c.decreases in
    let strict = precedes_strict _ _ (g.met.T.Twice.total c.args.order) in
    (rw c.link_at-link.ensures (omega arith), (within.0, (within.1, rw c.link_at-link.ensures (_, can_left _ strict _ _ _ _ _ can p c.if-at-slot.false (c.stands_before.ensures.before c.if-stands_before.true)))))

pub take-right-requires : goal.take-right-requires
take-right-requires g t c κs within =
    let can = rw c.in-Some.is at c.requires.1 in
    let p = parted _ _ _ _ _ can.tree in
    let low = (lower _ _ _ _ _ p).1 in
    let d = rw c.in-Some.is at c.decreases in
    let strict = precedes_strict _ _ (g.met.T.Twice.total c.args.order) in
    (rw c.link_at-link.ensures (omega arith), (within.0, (within.1, rw c.link_at-link.ensures (_, can_right _ strict _ _ _ _ _ can p c.if-at-slot.false (c.stands_before.ensures.not_before c.if-stands_before.false)))))

pub returns-then-stands_before-clause-out : goal.returns-then-stands_before-clause-out
returns-then-stands_before-clause-out g t c = λ tree can'.
    let can = rw c.in-Some.is at can' in
    let p = parted _ _ _ _ tree can.tree in
    let strict = precedes_strict _ _ (g.met.T.Twice.total c.args.order) in
    let o = c.take-left.ensures.out p.before (rw c.link_at-link.ensures (can_left _ strict _ _ _ _ tree can p c.if-at-slot.false (c.stands_before.ensures.before c.if-stands_before.true))) in
    let w = c.weave.ensures.woven o.tree p.after (rw (c.take-left.auto.slots, c.link_at-link.ensures) (ready_left _ _ _ _ _ _ tree _ can.tree p o)) in
    out_left _ strict _ _ _ _ _ _ tree _ _ can.tree p o w

pub returns-else-stands_before-clause-out : goal.returns-else-stands_before-clause-out
returns-else-stands_before-clause-out g t c = λ tree can'.
    let can = rw c.in-Some.is at can' in
    let p = parted _ _ _ _ tree can.tree in
    let strict = precedes_strict _ _ (g.met.T.Twice.total c.args.order) in
    let o = c.take-right.ensures.out p.after (rw c.link_at-link.ensures (can_right _ strict _ _ _ _ tree can p c.if-at-slot.false (c.stands_before.ensures.not_before c.if-stands_before.false))) in
    let w = c.weave-else-stands_before.ensures.woven p.before o.tree (rw (c.take-right.auto.slots, c.link_at-link.ensures) (ready_right _ _ _ _ _ _ tree _ can.tree p o)) in
    out_right _ strict _ _ _ _ _ _ tree _ _ can.tree p o w
