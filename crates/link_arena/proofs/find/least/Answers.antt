use Rattle.std.proofs.Common.{rules}
use Rattle.link_arena.proofs.Walks.{leads_from, leads_on, leads_down, leads_to}
use Rattle.link_arena.proofs.find.least.Goals as goal

pub loop-at-init : goal.loop-at-init
loop-at-init g c = leads_from _ _ _ c.requires.1

pub loop-at-smaller : goal.loop-at-smaller
loop-at-smaller g c = rw c.link_at-at.ensures (leads_down _ _ _ _ _ c.in-Some.is c.loop-at.invariant)

pub loop-at-preserved : goal.loop-at-preserved
loop-at-preserved g c = rw c.link_at-at.ensures (leads_on _ _ _ _ _ c.in-Some.is c.loop-at.invariant)

pub returns : goal.returns
returns g c = leads_to _ _ _ _ (search rules) c.loop-at.invariant
