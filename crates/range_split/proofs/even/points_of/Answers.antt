use Rattle.std.proofs.Common.{◌≡◌, ℕ, ◌*◌, ◌/◌, List, [], ◌∷◌, length, map, get_or, sym, ap, ◌∙◌, subst, nat_cmp, arith}
use Rattle.std.specs.Prelude.{IfOk}
use Rattle.std.specs.Option.{option_to_list}
use Rattle.std.proofs.lemmas.List.{length-map}
use Rattle.willow_area.specs.declared.cut.CutAt.{CutAt}
use Rattle.willow_area.specs.declared.cut.CutAt.TheVariants as cuts
use Rattle.range_split.specs.Quarters.{cuts_of, distinct_above}
use Rattle.range_split.proofs.Pointing.{cuts_of_none, pushed, times_told}
use Rattle.range_split.proofs.Subspaces.{or_others_first, or_others_other}
use Rattle.range_split.proofs.even.points_of.Goals as goal

pub returns-then-count-eq0 : goal.returns-then-count-eq0
returns-then-count-eq0 c = c.new-points.ensures ∙ sym (ap (map (λ x. cuts.Time x)) (cuts_of_none c.args.times.now (omega arith)))

-- the points that were found
abbrev found : List ℕ → List ℕ
found times = distinct_above nat_cmp (get_or times 0 0) (get_or times (length times / 4) 0 ∷ get_or times ((2 * length times) / 4) 0 ∷ get_or times ((3 * length times) / 4) 0 ∷ [])

pub returns-then-len-gt0 : goal.returns-then-len-gt0
returns-then-len-gt0 c =
    let times = c.args.times.now in
    let n = length times in
    let make : ℕ → CutAt = λ x. cuts.Time x in
    let points : c.push_time-3.new.points ≡ map make (found times) =
    pushed nat_cmp make (get_or times 0 0) (get_or times (n / 4) 0) (get_or times ((2 * n) / 4) 0) (get_or times ((3 * n) / 4) 0) c.in_ok-one.one c.in_ok-two.two c.new-points.result c.push_time.new.points c.push_time-2.new.points c.push_time-3.new.points
    c.new-points.ensures c.in_ok-one.ensures.points c.in_ok-one.ensures.next c.in_ok-two.ensures.points c.in_ok-two.ensures.next c.in_ok-_three.ensures.points in
    points
    ∙ ap (map make) (sym (times_told times (omega arith) ∙ or_others_first (found times) _ (omega (arith, c.len.ensures.length, c.if-len-gt0.true, ap length points, length-map (found times) make))))

pub returns : goal.returns
returns c =
    let times = c.args.times.now in
    let n = length times in
    let make : ℕ → CutAt = λ x. cuts.Time x in
    let points : c.push_time-3.new.points ≡ map make (found times) =
    pushed nat_cmp make (get_or times 0 0) (get_or times (n / 4) 0) (get_or times ((2 * n) / 4) 0) (get_or times ((3 * n) / 4) 0) c.in_ok-one.one c.in_ok-two.two c.new-points.result c.push_time.new.points c.push_time-2.new.points c.push_time-3.new.points
    c.new-points.ensures c.in_ok-one.ensures.points c.in_ok-one.ensures.next c.in_ok-two.ensures.points c.in_ok-two.ensures.next c.in_ok-_three.ensures.points in
    let all : cuts_of nat_cmp times ≡ option_to_list c.first_above.result =
    times_told times (omega arith) ∙ or_others_other (found times) _ (omega (arith, c.len.ensures.length, c.if-len-gt0.false, ap length points, length-map (found times) make)) ∙ sym c.first_above.ensures in
    subst (λ l. IfOk c.time_point.result (λ points. points ≡ map make l)) (sym all) c.time_point.ensures
