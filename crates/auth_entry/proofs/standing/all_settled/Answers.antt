use Rattle.auth_entry.proofs.Settling.{settled_more}
use Rattle.auth_entry.proofs.standing.all_settled.Goals as goal

pub loop-row-preserved : goal.loop-row-preserved
loop-row-preserved c = λ rules n all.
    settled_more rules n c.args.causes.now c.args.stood.now c.loop-row.row-index c.row-item.result c.loop-row-test.true c.row-item.is c.loop-row.pending.items c.settled.result c.push.new.self.items all
    (c.loop-row.invariant rules n all) (c.settled.ensures rules n) c.in_ok-push.ensures.items
