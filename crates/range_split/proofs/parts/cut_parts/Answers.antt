use Rattle.std.proofs.Common.{◌+◌, [], ◌∷◌, ◌++◌, drop, Some, sym, ap, ap₂, ◌∙◌, arith}
use Rattle.std.specs.Prelude.{option_map}
use Rattle.range_split.specs.Parts.{cut_all}
use Rattle.range_split.proofs.Pointing.{can_step, cut_on, cut_end, nothing_cut}
use Rattle.range_split.proofs.parts.cut_parts.Goals as goal

pub cut-requires : goal.cut-requires
cut-requires c = can_step c.args.area.now c.loop-i.rest c.loop-i.parts.items c.args.points.now c.loop-i.i c.point_at.result.now c.point_at.ensures c.loop-i.invariant c.requires

pub loop-i-init : goal.loop-i-init
loop-i-init c =
    nothing_cut (cut_all c.args.area.now c.args.points.now)
    ∙ ap₂ (λ before area. option_map (λ ps. before ++ ps) (cut_all area c.args.points.now)) (sym c.new-parts.ensures.items) (sym c.in_ok-rest.ensures)

pub loop-i-preserved : goal.loop-i-preserved
loop-i-preserved c =
    let at = c.point_at.result.now in
    let can = can_step c.args.area.now c.loop-i.rest c.loop-i.parts.items c.args.points.now c.loop-i.i at c.point_at.ensures c.loop-i.invariant c.requires in
    cut_on c.args.area.now c.loop-i.rest c.loop-i.parts.items c.args.points.now c.loop-i.i at c.point_at.ensures can c.loop-i.invariant
    ∙ ap₂ (λ low up. option_map (λ ps. (c.loop-i.parts.items ++ low ∷ []) ++ ps) (cut_all up (drop (c.loop-i.i + 1) c.args.points.now))) (sym c.in_ok-below.ensures.lower) (sym c.in_ok-below.ensures.upper)
    ∙ ap (λ before. option_map (λ ps. before ++ ps) (cut_all c.in_ok-below.above (drop (c.loop-i.i + 1) c.args.points.now))) (sym c.in_ok-push.ensures.items)

pub returns : goal.returns
returns c =
    cut_end c.args.area.now c.loop-i.rest c.loop-i.parts.items c.args.points.now c.loop-i.i (omega (arith, c.loop-i-test.false, c.len-i-end.ensures.length)) c.loop-i.invariant
    ∙ ap (λ l. Some l) (sym c.in_ok-push-2.ensures.items)
