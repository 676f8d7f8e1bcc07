use Rattle.std.proofs.Common.{◌+◌, ◌≤◌, arith}
use Rattle.link_arena.specs.Tree.{height}
use Rattle.link_arena.proofs.Turns.{plain, at_below}
use Rattle.link_arena.proofs.Trees.{told_height}
use Rattle.link_arena.proofs.join.weave.Goals as goal
use Rattle.link_arena.proofs.join.weave.Goals.{then-saturating_sub-gt1+in_default, else-saturating_sub-gt1, then-saturating_sub-gt1-2+in_default-right, else-saturating_sub-gt1-2}

pub returns-in-Some-clause-woven : goal.returns-in-Some-clause-woven
returns-in-Some-clause-woven g c = λ a b r.
    let ha = told_height _ _ a r.before in
    let hb = told_height _ _ b r.after in
    c.lower_left.ensures.woven a b (rw c.in-Some.is at r) (omega arith)

pub returns-in-Some-right-clause-woven : goal.returns-in-Some-right-clause-woven
returns-in-Some-right-clause-woven g c = λ a b r.
    let ha = told_height _ _ a r.before in
    let hb = told_height _ _ b r.after in
    c.lower_right.ensures.woven a b (rw c.in-Some-right.is at r) (omega arith)

pub returns-clause-woven : goal.returns-clause-woven
returns-clause-woven g c = λ a b r.
    let ha = told_height _ _ a r.before in
    let hb = told_height _ _ b r.after in
    let le : height a ≤ height b + 1 = elim c.if-saturating_sub-gt1.branch [
      | then-saturating_sub-gt1+in_default w ↦ let z = rw w.in_default.is at c.height_of-before.ensures in omega arith
      | else-saturating_sub-gt1 w ↦ omega arith
    ] in
    let ge : height b ≤ height a + 1 = elim c.if-saturating_sub-gt1-2.branch [
      | then-saturating_sub-gt1-2+in_default-right w ↦ let z = rw w.in_default-right.is at c.height_of-after.ensures in omega arith
      | else-saturating_sub-gt1-2 w ↦ omega arith
    ] in
    rw c.join.ensures.top (plain _ _ _ _ a _ _ b r le ge (c.join.ensures.set (at_below _ _ _ a _ _ b r)))
