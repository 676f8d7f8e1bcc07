use Rattle.std.proofs.Common.{arith}
use Rattle.link_arena.proofs.Puts.{put_leaf, put_left, put_right, can_left, can_right, ready_left, ready_right, above}
use Rattle.link_arena.proofs.Parts.{parted, lower}
use Rattle.link_arena.proofs.Orders.{precedes_strict}
use Rattle.link_arena.proofs.put.+put.Goals as goal

pub returns-in_default-clause-put : goal.returns-in_default-clause-put
returns-in_default-clause-put g t c = λ tree can. rw (c.put_alone.ensures.top, c.put_alone.ensures.ends) (put_leaf _ _ _ _ _ _ _ _ tree c.in_default.is can (c.put_alone.ensures.set can.below))

pub put-left-requires : goal.put-left-requires
put-left-requires g t c κs within =
    let can = rw c.in-Some.is at c.requires.1 in
    let p = parted _ _ _ _ _ can.tree in
    let low = (lower _ _ _ _ _ p).0 in
    let d = rw c.in-Some.is at c.decreases in
    (rw c.link_at-link.ensures (omega arith), (within.0, (within.1, rw c.link_at-link.ensures (_, can_left _ _ _ _ _ _ can p))))

pub put-right-requires : goal.put-right-requires
put-right-requires g t c κs within =
    let can = rw c.in-Some.is at c.requires.1 in
    let p = parted _ _ _ _ _ can.tree in
    let low = (lower _ _ _ _ _ p).1 in
    let d = rw c.in-Some.is at c.decreases in
    (rw c.link_at-link.ensures (omega arith), (within.0, (within.1, rw c.link_at-link.ensures (_, can_right _ _ _ _ _ _ can p))))

pub returns-then-stands_before-clause-put : goal.returns-then-stands_before-clause-put
returns-then-stands_before-clause-put g t c = λ tree can'.
    let can = rw c.in-Some.is at can' in
    let p = parted _ _ _ _ tree can.tree in
    let strict = precedes_strict _ _ (g.met.T.Twice.total c.args.order) in
    let q = c.put-left.ensures.put p.before (rw c.link_at-link.ensures (can_left _ _ _ _ _ tree can p)) in
    let w = c.weave_left.ensures.woven q.tree p.after (rw (c.put-left.auto.slots, c.link_at-link.ensures) (ready_left _ _ _ _ _ _ tree _ _ _ _ _ can p q)) in
    rw c.weave_left.ensures.ends (put_left _ strict _ _ _ _ _ _ tree _ _ _ _ _ _ can p (c.stands_before.ensures.before c.if-stands_before.true) q w)

pub returns-else-stands_before-clause-put : goal.returns-else-stands_before-clause-put
returns-else-stands_before-clause-put g t c = λ tree can'.
    let can = rw c.in-Some.is at can' in
    let p = parted _ _ _ _ tree can.tree in
    let strict = precedes_strict _ _ (g.met.T.Twice.total c.args.order) in
    let q = c.put-right.ensures.put p.after (rw c.link_at-link.ensures (can_right _ _ _ _ _ tree can p)) in
    let w = c.weave_right.ensures.woven p.before q.tree (rw (c.put-right.auto.slots, c.link_at-link.ensures) (ready_right _ _ _ _ _ _ tree _ _ _ _ _ can p q)) in
    rw c.weave_right.ensures.ends (put_right _ strict _ _ _ _ _ _ tree _ _ _ _ _ _ can p (above _ _ _ _ _ tree can p (c.stands_before.ensures.not_before c.if-stands_before.false)) q w)
