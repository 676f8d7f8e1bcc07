use Rattle.link_arena.specs.Slots.{side, root_height}
use Rattle.link_arena.proofs.Walks.{LeadsOn}
use Rattle.link_arena.proofs.find.least.Given as goal

abbrev pub invariant-loop-at : goal.invariant-loop-at
invariant-loop-at g l = LeadsOn (side l.order l.slots) l.fn.root l.at l.least

abbrev pub decreases-loop-at : goal.decreases-loop-at
decreases-loop-at g l = root_height (side l.order l.slots) l.at
