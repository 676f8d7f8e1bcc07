use Rattle.std.proofs.Common.{sym, ◌∙◌, ap, length, subst}
use Rattle.link_arena.specs.Arena.{AreTwoOrders}
use Rattle.link_arena.proofs.Sounds.{key_length, rank_length, orders}
use Rattle.link_arena.proofs.arena.Arena.len.Goals as goal

pub returns-clause-by_key : goal.returns-clause-by_key
returns-clause-by_key g c = sym (key_length _ _ _ _ _ _ _ _ _ c.self.invariant.3) ∙ ap (λ a. length a.by_key) c.self.view_is

pub returns-clause-by_rank : goal.returns-clause-by_rank
returns-clause-by_rank g c = sym (rank_length _ _ _ _ _ _ _ _ _ c.self.invariant.3) ∙ ap (λ a. length a.by_rank) c.self.view_is

pub returns-clause-orders : goal.returns-clause-orders
returns-clause-orders g c = subst (AreTwoOrders g.T.Twice.cmp_by) c.self.view_is (orders _ _ _ _ _ _ _ _ _ c.self.invariant.3 g.met.T.Twice.total _)
