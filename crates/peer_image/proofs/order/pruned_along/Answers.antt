use Rattle.std.proofs.Common.{◌≡◌, ◌+◌, [], map, drop, Some, None, Ok, refl, sym, ap, subst, ◌∙◌, arith}
use Rattle.std.proofs.lemmas.List.{length-map, drop_all}
use Rattle.peer_image.specs.declared.refusal.ImageRefusal.TheVariants.{Pruned}
use Rattle.peer_image.specs.Fronts.{seen, first_dominating, fronts_of}
use Rattle.peer_image.proofs.Places.{left_is, passed_is}
use Rattle.peer_image.proofs.KeptFronts.{HasPassed, passed_none, passed_on, passed_all, refused_here}
use Rattle.peer_image.proofs.order.pruned_along.Goals as goal

pub loop-row-init : goal.loop-row-init
loop-row-init g c = record {
  counted = omega arith;
  passed = λ earlier h. passed_none earlier (map g.R.Row.value c.args.rows.now) (map (seen g.R.Row.value) c.args.fronts.now.items) c.args.before h;
}

pub returns-in-Some-clause-found : goal.returns-in-Some-clause-found
returns-in-Some-clause-found g c = λ earlier h.
    let value = g.R.Row.value in
    let rows = map value c.args.rows.now in
    let k = c.loop-row.row-index in
    let next = value c.row-item.result in
    let fronts = map (seen value) c.loop-row.fronts.items in
    let found : Some c.in-Some.by ≡ first_dominating next (fronts_of next fronts) = sym c.in-Some.is ∙ c.in_ok-by.ensures.by in
    ap (λ n. Some (Pruned n c.in-Some.by)) (omega (arith, c.loop-row.invariant.counted))
    ∙ refused_here earlier rows c.args.before k (map (seen value) c.args.fronts.now.items) fronts (fronts_of next fronts) next (drop (k + 1) rows) h (c.loop-row.invariant.passed earlier h)
    (omega (arith, c.loop-row-test.true, length-map c.args.rows.now value)) (left_is value c.args.rows.now k c.row-item.result c.loop-row-test.true c.row-item.is) refl c.in-Some.by found

pub loop-row-preserved : goal.loop-row-preserved
loop-row-preserved g c =
    let value = g.R.Row.value in
    let rows = map value c.args.rows.now in
    let k = c.loop-row.row-index in
    let next = value c.row-item.result in
    let fronts = map (seen value) c.loop-row.fronts.items in
    let none : None ≡ first_dominating next (fronts_of next fronts) = sym c.in_default.is ∙ c.in_ok-by.ensures.by in
    let kept = c.in_ok-by.ensures.kept (ap Ok c.in_default.is) in
    record {
      counted = omega (arith, c.loop-row.invariant.counted);
      passed =
          λ earlier h. subst (HasPassed earlier rows (k + 1)) (sym kept)
          (passed_on earlier rows c.args.before k (map (seen value) c.args.fronts.now.items) fronts (fronts_of next fronts) next (drop (k + 1) rows) h (c.loop-row.invariant.passed earlier h)
          (omega (arith, c.loop-row-test.true, length-map c.args.rows.now value)) (left_is value c.args.rows.now k c.row-item.result c.loop-row-test.true c.row-item.is) refl (c.loop-row.at + 1) none
          (omega (arith, c.loop-row.invariant.counted)) refl (passed_is value c.args.rows.now k c.row-item.result c.loop-row-test.true c.row-item.is));
    }

pub returns-clause-found : goal.returns-clause-found
returns-clause-found g c = λ earlier h.
    let value = g.R.Row.value in
    let rows = map value c.args.rows.now in
    let k = c.loop-row.row-index in
    let none : drop k rows ≡ [] = drop_all k rows (omega (arith, c.loop-row-test.false, length-map c.args.rows.now value)) in
    passed_all earlier rows k (map (seen value) c.loop-row.fronts.items) (c.loop-row.invariant.passed earlier h) none
