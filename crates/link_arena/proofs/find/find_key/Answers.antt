use Rattle.std.proofs.Common.{rules, sym}
use Rattle.link_arena.specs.declared.twice.Order.TheVariants.{Key}
use Rattle.link_arena.proofs.Parts.{parted, lower}
use Rattle.link_arena.proofs.Orders.{precedes_strict}
use Rattle.link_arena.proofs.Walks.{down_left, down_right, found, bound, nowhere, bound_at_end, tied_below, tied_above, tied_at}
use Rattle.link_arena.proofs.find.find_key.Goals as goal

pub returns-in_default-value_of-clause-found : goal.returns-in_default-value_of-clause-found
returns-in_default-value_of-clause-found g c = λ t h.
    let w = rw c.in-Some.is at c.loop-at.invariant in
    absurd (h.filled c.in-Some.slot (found _ _ (precedes_strict _ _ (g.met.T.Twice.total Key)) _ _ _ _ _ _ w t h.tree) (sym c.in_default-value_of.ensures))

pub returns-in_default-value_of-clause-bound : goal.returns-in_default-value_of-clause-bound
returns-in_default-value_of-clause-bound g c = λ t h.
    let w = rw c.in-Some.is at c.loop-at.invariant in
    absurd (h.filled c.in-Some.slot (found _ _ (precedes_strict _ _ (g.met.T.Twice.total Key)) _ _ _ _ _ _ w t h.tree) (sym c.in_default-value_of.ensures))

pub loop-at-smaller-in-Less : goal.loop-at-smaller-in-Less
loop-at-smaller-in-Less g c =
    let w = rw c.in-Some.is at c.loop-at.invariant in
    let low = (lower _ _ _ _ _ (parted _ _ _ _ w.part w.part_is)).0 in
    rw (c.in-Some.is, c.link_at-link.ensures) low

pub loop-at-preserved-in-Less : goal.loop-at-preserved-in-Less
loop-at-preserved-in-Less g c =
    let w = rw c.in-Some.is at c.loop-at.invariant in
    rw (c.link_at-link.ensures, c.in-Less.ensures.step) (down_left _ _ (precedes_strict _ _ (g.met.T.Twice.total Key)) _ _ _ _ _ _ w
    (λ s h tied. tied_below _ (g.met.T.Twice.total Key) _ _ _ _ c.in-Some-value_of.ensures tied (sym c.in-Less.ensures.order)))

pub returns-in-Equal-clause-found : goal.returns-in-Equal-clause-found
returns-in-Equal-clause-found g c = λ t h.
    let w = rw c.in-Some.is at c.loop-at.invariant in
    (found _ _ (precedes_strict _ _ (g.met.T.Twice.total Key)) _ _ _ _ _ _ w t h.tree, tied_at _ (g.met.T.Twice.total Key) _ _ _ c.in-Some-value_of.ensures (sym c.in-Equal.ensures.order))

pub returns-in-Equal-clause-bound : goal.returns-in-Equal-clause-bound
returns-in-Equal-clause-bound g c = λ t h.
    let w = rw c.in-Some.is at c.loop-at.invariant in
    rw c.in-Equal.ensures.step (bound _ _ (precedes_strict _ _ (g.met.T.Twice.total Key)) _ _ _ _ _ _ w t h.tree)

pub loop-at-smaller : goal.loop-at-smaller
loop-at-smaller g c =
    let w = rw c.in-Some.is at c.loop-at.invariant in
    let low = (lower _ _ _ _ _ (parted _ _ _ _ w.part w.part_is)).1 in
    rw (c.in-Some.is, c.link_at-link.ensures) low

pub loop-at-preserved : goal.loop-at-preserved
loop-at-preserved g c =
    let w = rw c.in-Some.is at c.loop-at.invariant in
    rw (c.link_at-link.ensures, c.in-Greater.ensures.step) (down_right _ _ (precedes_strict _ _ (g.met.T.Twice.total Key)) _ _ _ _ _ _ w
    (λ s h tied. tied_above _ (g.met.T.Twice.total Key) _ _ _ _ c.in-Some-value_of.ensures tied (sym c.in-Greater.ensures.order)))

pub returns-clause-found : goal.returns-clause-found
returns-clause-found g c = λ t h. nowhere _ _ _ _ _ _ _ _ (search rules) c.loop-at.invariant t h.tree

pub returns-clause-bound : goal.returns-clause-bound
returns-clause-bound g c = λ t h. bound_at_end _ _ _ _ _ _ _ _ (search rules) c.loop-at.invariant t h.tree
