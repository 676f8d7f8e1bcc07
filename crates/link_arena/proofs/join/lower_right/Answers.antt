use Rattle.std.proofs.Common.{arith}
use Rattle.link_arena.proofs.Turns.{turn_left, turn_left_twice, at_below, top_below_after, middle_below_after}
use Rattle.link_arena.proofs.join.lower_right.Goals as goal
use Rattle.link_arena.proofs.join.lower_right.Goals.{in_default-via-in-Some+else-height_of, in_default-via-in_default}

pub returns-in-Some-clause-woven : goal.returns-in-Some-clause-woven
returns-in-Some-clause-woven g c = λ a b r tall.
    rw c.join.ensures.top (turn_left_twice _ _ _ _ _ _ _ _ _ a b _ _ c.link_at-link.ensures c.link_at-inner.ensures r tall c.in-Some.is (omega arith)
    (c.join-last.ensures.set (top_below_after _ _ _ a _ _ b r))
    (c.join-first.ensures.set (let here = at_below _ _ _ a _ _ b r in omega arith))
    (rw (c.join-first.ensures.top, c.join-last.ensures.top) at (c.join.ensures.set (let here = middle_below_after _ _ _ _ a _ _ b _ c.link_at-link.ensures c.in-Some.is r in omega arith))))

pub returns-in_default-clause-woven : goal.returns-in_default-clause-woven
returns-in_default-clause-woven g c = λ a b r tall.
    rw c.join-in_default.ensures.top (turn_left _ _ _ _ _ _ _ a b _ c.link_at-link.ensures r tall
    (elim c.in_default.branch [ in_default-via-in-Some+else-height_of w ↦ omega arith | in_default-via-in_default w ↦ let e = w.in_default.is in rw e (omega arith) ])
    (c.join-lower.ensures.set (at_below _ _ _ a _ _ b r))
    (rw c.join-lower.ensures.top at (c.join-in_default.ensures.set (let here = top_below_after _ _ _ a _ _ b r in omega arith))))
