use Rattle.willow_area.proofs.Boxing.{box_as}
use Rattle.willow_area.proofs.box3.box_of.Goals as goal

pub invariant_of-result : goal.invariant_of-result
invariant_of-result c =
    (box_as c.args.area.now c.key_range-key_start.result.0 c.key_range-key_start.result.1 c.in_ok-copy.field-0 c.in_ok-path_end.path_end c.known.ensures
    c.key_range-key_start.ensures.start c.key_range-key_start.ensures.end c.in_ok-copy.ensures c.in_ok-path_end.ensures.value c.key_range-key_start.ensures.rising).0

pub returns-clause-same : goal.returns-clause-same
returns-clause-same c =
    (box_as c.args.area.now c.key_range-key_start.result.0 c.key_range-key_start.result.1 c.in_ok-copy.field-0 c.in_ok-path_end.path_end c.known.ensures
    c.key_range-key_start.ensures.start c.key_range-key_start.ensures.end c.in_ok-copy.ensures c.in_ok-path_end.ensures.value c.key_range-key_start.ensures.rising).1
