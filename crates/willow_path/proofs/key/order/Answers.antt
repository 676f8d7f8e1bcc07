use Rattle.std.proofs.Common.{◌∙◌, sym}
use Rattle.willow_path.proofs.PathOrder.{part_cmp_equal, part_eq_decides}
use Rattle.willow_path.proofs.key.order.Goals as goal

pub returns-then-eq : goal.returns-then-eq
returns-then-eq c =
    let a = c.args.bytes.now in
    let b = c.args.others.now in
    sym ((part_cmp_equal a b).1 ((part_eq_decides a b).0 (sym c.eq.ensures ∙ c.if-eq.true)))
