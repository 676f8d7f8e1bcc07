use Rattle.std.proofs.Common.{arith}
use Rattle.willow_outside.proofs.Pieces.{took-more, took-on}
use Rattle.willow_outside.proofs.reading.read_on.Goals as goal

pub returns-then-saturating_sub-n-clause-taken : goal.returns-then-saturating_sub-n-clause-taken
returns-then-saturating_sub-n-clause-taken g c =
    took-more _ _ _ _ _ _ _ c.loop-n.invariant.taken c.in-Ok.ensures.bytes.0 (omega (arith, c.in-Ok.ensures.bound)) c.loop-n.invariant.within (omega arith)

pub returns-then-is_err-clause-taken : goal.returns-then-is_err-clause-taken
returns-then-is_err-clause-taken g c =
    took-on _ _ _ _ _ _ _ c.loop-n.invariant.taken c.in-Ok.ensures.bytes.0 (omega (arith, c.in-Ok.ensures.bound)) c.loop-n.invariant.within (omega arith)
