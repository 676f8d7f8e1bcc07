use Rattle.std.proofs.Common.{arith}
use Rattle.link_arena.specs.Slots.{other}
use Rattle.link_arena.proofs.Kept.{removed, other_stays, contents_stay}
use Rattle.link_arena.proofs.order.remove.Goals as goal

pub returns-clause-removed : goal.returns-clause-removed
returns-clause-removed g c = λ t h can. removed c.args.order c.args.slots.now c.take-root.new.slots c.link_out.new.slots c.take-root.ensures.rest c.link_out.ensures.rest
    (g.T.Twice.cmp_by c.args.order) _ _ t _ _ _ (omega arith) (omega arith) h (c.take-root.ensures.out t can)
    c.ends_at-between.ensures.before c.ends_at-between.ensures.after c.link_out.ensures.chained

pub returns-clause-other : goal.returns-clause-other
returns-clause-other g c = λ q t h. other_stays c.args.order c.args.slots.now c.take-root.new.slots c.link_out.new.slots c.take-root.ensures.rest c.link_out.ensures.rest
    (g.T.Twice.cmp_by (other c.args.order)) (omega arith) q t h

pub returns-clause-contents : goal.returns-clause-contents
returns-clause-contents g c = contents_stay c.args.order c.args.slots.now c.take-root.new.slots c.link_out.new.slots c.take-root.ensures.rest c.link_out.ensures.rest
