use Rattle.std.proofs.Common.{List, ℕ, Some, arith, sym, ap, ◌∙◌}
use Rattle.willow_path.proofs.PartSuccessor.{raised_here, raised_before, raised_none}
use Rattle.willow_path.proofs.successor.raised_part.Goals as goal

pub returns-then-last-lt255 : goal.returns-then-last-lt255
returns-then-last-lt255 c =
    ap (λ (l : List ℕ). Some l) c.in_ok-extended.ensures ∙ sym (raised_here c.loop-front.front.now (omega arith) c.if-last-lt255.true) ∙ c.loop-front.invariant

pub loop-front-preserved : goal.loop-front-preserved
loop-front-preserved c = sym (raised_before c.loop-front.front.now (omega arith) c.if-last-lt255.false) ∙ c.loop-front.invariant

pub returns : goal.returns
returns c = sym (raised_none c.loop-front.front.now (omega arith)) ∙ c.loop-front.invariant
