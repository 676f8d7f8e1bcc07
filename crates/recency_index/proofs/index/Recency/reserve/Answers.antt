use Rattle.recency_index.proofs.Pairs.{same_orders}
use Rattle.recency_index.proofs.index.Recency.reserve.Goals as goal

pub invariant_of-self : goal.invariant_of-self
invariant_of-self c = same_orders c.self.inside.items c.reserve.new.self c.reserve.ensures.by_key c.reserve.ensures.by_rank c.self.invariant
