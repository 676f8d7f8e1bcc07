use Rattle.recency_index.proofs.Pairs.{same_orders}
use Rattle.recency_index.proofs.index.Recency.insert.Goals as goal

pub put-requires-clause-orders : goal.put-requires-clause-orders
put-requires-clause-orders c = same_orders c.self.inside.items c.reserve.new.self c.reserve.ensures.by_key c.reserve.ensures.by_rank c.self.invariant
