use Rattle.std.proofs.Common.{arith}
use Rattle.link_arena.specs.Slots.{other}
use Rattle.link_arena.proofs.Kept.{added, other_stays, contents_stay}
use Rattle.link_arena.proofs.order.add.Goals as goal

pub returns-clause-added : goal.returns-clause-added
returns-clause-added g c = λ t h can. added c.args.order c.args.slots.now c.put-placed.new.slots c.link_in.new.slots c.put-placed.ensures.rest c.link_in.ensures.rest
    (g.T.Twice.cmp_by c.args.order) _ _ t _ _ _ (omega arith) (omega arith) h (c.put-placed.ensures.put t can) c.link_in.ensures.chained

pub returns-clause-other : goal.returns-clause-other
returns-clause-other g c = λ q t h. other_stays c.args.order c.args.slots.now c.put-placed.new.slots c.link_in.new.slots c.put-placed.ensures.rest c.link_in.ensures.rest
    (g.T.Twice.cmp_by (other c.args.order)) (omega arith) q t h

pub returns-clause-contents : goal.returns-clause-contents
returns-clause-contents g c = contents_stay c.args.order c.args.slots.now c.put-placed.new.slots c.link_in.new.slots c.put-placed.ensures.rest c.link_in.ensures.rest
