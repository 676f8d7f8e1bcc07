use Rattle.std.proofs.Common.{length}
use Rattle.link_arena.specs.declared.twice.Order.TheVariants.{Key}
use Rattle.link_arena.specs.Slots.{side, value_at, IsTied, Precedes, root_height}
use Rattle.link_arena.proofs.Walks.{IsOnWay}
use Rattle.link_arena.proofs.find.find_key.Given as goal

abbrev pub invariant-loop-at : goal.invariant-loop-at
invariant-loop-at g l = IsOnWay (side Key l.slots) (Precedes (g.T.Twice.cmp_by Key) l.slots) (length l.slots) (λ s. IsTied (g.T.Twice.cmp_by Key) l.probe (value_at l.slots s)) l.fn.root l.at l.fn.steps l.steps

abbrev pub decreases-loop-at : goal.decreases-loop-at
decreases-loop-at g l = root_height (side Key l.slots) l.at
