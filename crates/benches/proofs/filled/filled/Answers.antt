use Rattle.std.proofs.Common.{◌≡◌, ◌+◌, false, subst, sym, refl, arith, List}
use Rattle.recency_index.specs.Recency.{has_at, ranked_of}
use Rattle.recency_index.specs.declared.ranked.Ranked.{Ranked}
use Rattle.benches.proofs.Free.{AreFreeFrom, free_more}
use Rattle.benches.proofs.filled.filled.Goals as goal

pub loop-number-init : goal.loop-number-init
loop-number-init c = subst (λ (items : List Ranked). AreFreeFrom 0 items) (sym c.new-index.ensures) (λ subspace m le above. refl)

pub insert-requires-clause-free : goal.insert-requires-clause-free
insert-requires-clause-free c =
    subst (λ path. has_at c.in_ok-entry.entry.subspace path c.loop-number.index.items ≡ false) (sym c.in_ok-entry.ensures)
    (c.loop-number.invariant c.in_ok-entry.entry.subspace c.loop-number.number (omega arith) (omega (arith, c.loop-number-test.true, c.ranges.count)))

pub loop-number-preserved : goal.loop-number-preserved
loop-number-preserved c =
    subst (λ (items : List Ranked). AreFreeFrom (c.loop-number.number + 1) items) (sym c.in-Ok.ensures.items)
    (free_more c.loop-number.number (ranked_of c.in_ok-entry.entry) c.loop-number.index.items (omega (arith, c.loop-number-test.true, c.ranges.count)) c.in_ok-entry.ensures c.loop-number.invariant)
