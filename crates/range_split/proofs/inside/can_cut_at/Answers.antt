use Rattle.std.proofs.Common.{rules, ◌≡◌, Some, slice_get, sym, ap, ◌∙◌, arith}
use Rattle.range_split.specs.Parts.{can_cut_at}
use Rattle.range_split.proofs.CutTest.{can_cut_test, two_points, three_points}
use Rattle.range_split.proofs.inside.can_cut_at.Goals as goal

pub returns-in-Some-Some-None-clause-parts : goal.returns-in-Some-Some-None-clause-parts
returns-in-Some-Some-None-clause-parts c =
    let points = c.args.points.now in
    let arm = c.in-Some-Some-None in
    let one : slice_get points 0 ≡ Some arm.one.now = search rules in
    let two : slice_get points 1 ≡ Some arm.two.now = search rules in
    c.can_cut_at_two.ensures
    ∙ ap (can_cut_at c.args.area.now) (sym (two_points points arm.one.now arm.two.now one two (omega arith)))
    ∙ sym (can_cut_test c.args.area.now points c.len-few.ensures.one)

pub returns-in-Some-Some-Some-clause-parts : goal.returns-in-Some-Some-Some-clause-parts
returns-in-Some-Some-Some-clause-parts c =
    let points = c.args.points.now in
    let arm = c.in-Some-Some-Some in
    let one : slice_get points 0 ≡ Some arm.one.now = search rules in
    let two : slice_get points 1 ≡ Some arm.two.now = search rules in
    let three : slice_get points 2 ≡ Some arm.three.now = search rules in
    c.can_cut_at_three.ensures
    ∙ ap (can_cut_at c.args.area.now) (sym (three_points points arm.one.now arm.two.now arm.three.now one two three (omega (arith, c.len-few.ensures.length, c.len-few.ensures.few))))
    ∙ sym (can_cut_test c.args.area.now points c.len-few.ensures.one)
