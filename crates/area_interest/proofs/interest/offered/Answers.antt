use Rattle.std.proofs.Common.{List, length, map, Contains, sym, ap, ap₂, ◌∙◌, subst, arith}
use Rattle.std.proofs.lemmas.List.{length-map}
use Rattle.std.proofs.lemmas.Result.{IfOk-weaker}
use Rattle.willow_area.specs.AreaBox.{area_box}
use Rattle.willow_entry.specs.Row.{RowValue, AreLive}
use Rattle.block_store.specs.InBox.{rows_in}
use Rattle.area_interest.specs.Interest.{interest}
use Rattle.area_interest.proofs.Offering.{all_inside, all_among, all_live, no_more}
use Rattle.area_interest.proofs.Unlimited.{takes_all}
use Rattle.area_interest.proofs.interest.offered.Goals as goal

pub returns-then-has_no_limit-clause-inside : goal.returns-then-has_no_limit-clause-inside
returns-then-has_no_limit-clause-inside g c =
    let rows = map g.R.Row.value c.args.snapshot.now in
    let area = area_box c.args.area.now in
    let none = c.has_no_limit.ensures.0 c.if-has_no_limit.true in
    IfOk-weaker c.share.result _ _
    (λ made is. ap (λ l. rows_in area (map g.R.Row.value l)) is ∙ sym (ap₂ (λ n b. interest rows area n b) none.0 none.1 ∙ takes_all rows area c.known.ensures c.requires.one))
    c.share.ensures.equal

pub returns-else-has_no_limit-clause-inside : goal.returns-else-has_no_limit-clause-inside
returns-else-has_no_limit-clause-inside g c =
    let area = area_box c.args.area.now in
    let limits = c.args.limits.now in
    IfOk-weaker c.offered_of.result _ _
    (λ made is. ap (rows_in area) is ∙ all_inside (map g.R.Row.value c.args.snapshot.now) area limits.newest limits.bytes)
    c.offered_of.ensures

pub returns-else-has_no_limit-clause-live : goal.returns-else-has_no_limit-clause-live
returns-else-has_no_limit-clause-live g c =
    let limits = c.args.limits.now in
    IfOk-weaker c.offered_of.result _ _
    (λ made is. subst (λ (l : List RowValue). AreLive l) (sym is) (all_live (map g.R.Row.value c.args.snapshot.now) (area_box c.args.area.now) limits.newest limits.bytes c.known.ensures))
    c.offered_of.ensures

pub returns-else-has_no_limit-clause-among : goal.returns-else-has_no_limit-clause-among
returns-else-has_no_limit-clause-among g c =
    let limits = c.args.limits.now in
    IfOk-weaker c.offered_of.result _ _
    (λ made is r there. all_among (map g.R.Row.value c.args.snapshot.now) (area_box c.args.area.now) limits.newest limits.bytes r (subst (λ (l : List RowValue). Contains l r) is there))
    c.offered_of.ensures

pub returns-else-has_no_limit-clause-few : goal.returns-else-has_no_limit-clause-few
returns-else-has_no_limit-clause-few g c =
    let value = g.R.Row.value in
    let limits = c.args.limits.now in
    IfOk-weaker c.offered_of.result _ _
    (λ made is. omega (arith, no_more (map value c.args.snapshot.now) (area_box c.args.area.now) limits.newest limits.bytes, ap length is, length-map made value, length-map c.args.snapshot.now value))
    c.offered_of.ensures
