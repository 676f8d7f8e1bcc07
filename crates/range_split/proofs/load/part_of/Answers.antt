use Rattle.std.proofs.Common.{◌≡◌, sym, ◌∙◌, arith}
use Rattle.range_split.proofs.Tally.{part_here, part_later, part_last}
use Rattle.range_split.proofs.load.part_of.Goals as goal

pub returns-then-is_row_below-clause-part : goal.returns-then-is_row_below-clause-part
returns-then-is_row_below-clause-part g c =
    sym (part_here c.args.points.now (g.R.Row.value c.args.row.now) c.loop-i.i c.loop-i.invariant c.point_at.result.now c.point_at.ensures (sym c.is_row_below.ensures ∙ c.if-is_row_below.true))

pub loop-i-preserved : goal.loop-i-preserved
loop-i-preserved g c =
    part_later c.args.points.now (g.R.Row.value c.args.row.now) c.loop-i.i c.loop-i.invariant c.point_at.result.now c.point_at.ensures (sym c.is_row_below.ensures ∙ c.if-is_row_below.false)

pub returns-clause-part : goal.returns-clause-part
returns-clause-part g c =
    let i : c.len-count.result ≡ c.loop-i.i = omega arith in
    i ∙ sym (part_last c.args.points.now (g.R.Row.value c.args.row.now) c.loop-i.i c.loop-i.invariant (omega arith))
