use Rattle.link_arena.proofs.Takes.{top_alone, out_top, ready_top}
use Rattle.link_arena.proofs.Parts.{parted}
use Rattle.link_arena.proofs.Orders.{precedes_strict}
use Rattle.link_arena.proofs.take.take_top.Goals as goal

pub take_least-least-requires : goal.take_least-least-requires
take_least-least-requires g c =
    let p = parted _ _ _ _ _ c.requires.1 in
    let link = rw c.link_at-link.ensures at c.in-Some.is in
    (_, rw link at p.after_is)

pub returns-in-None-clause-out : goal.returns-in-None-clause-out
returns-in-None-clause-out g c = λ tree is. rw c.link_at-link.ensures (top_alone _ _ _ _ tree (rw c.link_at-link.ensures at c.in-None.is) is)

pub returns-in-Some-clause-out : goal.returns-in-Some-clause-out
returns-in-Some-clause-out g c = λ tree is.
    let p = parted _ _ _ _ tree is in
    let link = rw c.link_at-link.ensures at c.in-Some.is in
    let strict = precedes_strict _ _ (g.met.T.Twice.total c.args.order) in
    let o = c.take_least-least.ensures.out p.after (rw link at p.after_is) in
    let w = c.weave.ensures.woven p.before o.out.tree (rw (c.take_least-least.auto.slots, c.link_at-link.ensures) (ready_top _ _ _ _ _ _ tree _ is p o.out)) in
    out_top _ strict _ _ _ _ _ _ tree _ _ is p o w
