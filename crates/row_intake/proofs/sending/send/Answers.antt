use Rattle.std.proofs.Common.{arith}
use Rattle.std.proofs.lemmas.List.{length-drop, length-take}
use Rattle.willow_outside.proofs.Extended.{extended-on}
use Rattle.row_intake.proofs.sending.send.Goals as goal

pub loop-at-preserved : goal.loop-at-preserved
loop-at-preserved g c = record {
  in_range = omega (arith, simp (length-take, length-drop) at c.in_ok-at.ensures.bound);
  given = extended-on _ _ _ _ _ _ c.loop-at.invariant.given c.in_ok-at.ensures.bytes;
  faults = omega (arith, c.in_ok-at.ensures.cause, c.loop-at.invariant.faults);
  most = cc;
  rest = record {
    left = cc;
    taken = cc;
    faults = cc;
    ends = cc;
  };
}
