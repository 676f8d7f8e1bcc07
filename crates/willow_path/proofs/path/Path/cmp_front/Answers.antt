use Rattle.std.proofs.Common.{◌∙◌, sym, arith}
use Rattle.willow_path.proofs.PathOrder.{next_of_front}
use Rattle.willow_path.proofs.path.Path.cmp_front.Goals as goal

pub loop-part-preserved : goal.loop-part-preserved
loop-part-preserved c =
    let one = c.in-Some.ensures in
    let two = c.in-Some-first_part.ensures in
    let tied = sym c.part_order.ensures ∙ c.in-Equal.is in
    record {
      left_whole = one.whole;
      right_whole = two.whole;
      so_far = sym (next_of_front _ _ _ _ c.loop-part.most tied (omega arith)) ∙ (rw (one.parts, two.parts) at c.loop-part.invariant.so_far);
    }
