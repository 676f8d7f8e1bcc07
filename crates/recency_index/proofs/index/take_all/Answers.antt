use Rattle.recency_index.proofs.Taken.{none_taken, one_more_taken}
use Rattle.recency_index.proofs.index.take_all.Goals as goal

pub loop-item-init : goal.loop-item-init
loop-item-init c = none_taken c.args.items.now c.args.gone.now c.requires.orders

pub take-requires-clause-orders : goal.take-requires-clause-orders
take-requires-clause-orders c = c.loop-item.invariant.orders

pub loop-item-preserved : goal.loop-item-preserved
loop-item-preserved c =
    one_more_taken c.args.items.now c.loop-item.items c.take.new.items c.args.gone.now c.loop-item.item-index c.item-item.result c.requires.held c.requires.once c.loop-item-test.true c.item-item.is
    c.loop-item.invariant c.take.ensures.items c.take.ensures.orders c.take.ensures.spare
