use Rattle.std.proofs.Common.{◌∙◌, sym, arith}
use Rattle.willow_path.proofs.PathOrder.{part_cmp-end}
use Rattle.willow_path.proofs.path.part_order.Goals as goal

pub returns : goal.returns
returns c = c.cmp-2.ensures ∙ sym (part_cmp-end c.args.part.now c.args.other.now c.loop-i.i (omega arith)) ∙ c.loop-i.invariant
