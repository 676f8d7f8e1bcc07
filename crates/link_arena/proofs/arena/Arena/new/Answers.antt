use Rattle.link_arena.proofs.Empty.{nothing_kept, no_orders}
use Rattle.link_arena.proofs.arena.Arena.new.Goals as goal

pub invariant_of-result : goal.invariant_of-result
invariant_of-result g c = nothing_kept _ _ c.new.ensures.items

pub returns-clause-orders : goal.returns-clause-orders
returns-clause-orders g c = no_orders _ _ g.met.T.Twice.total _ c.new.ensures.items
