use Rattle.std.proofs.Common.{map, Option, option_map, sym, ap, subst, arith}
use Rattle.std.specs.Prelude.{IfOk}
use Rattle.std.proofs.lemmas.List.{length-map}
use Rattle.willow_area.specs.AreaBox.{area_box}
use Rattle.willow_area.specs.Boxes.{Ranges}
use Rattle.sync_link.specs.Talking.{AreOffered}
use Rattle.sync_link.proofs.Offering.{offered_nowhere, offered_there}
use Rattle.sync_link.proofs.side.greet.offered_in.Goals as goal

pub offered-requires-clause-few : goal.offered-requires-clause-few
offered-requires-clause-few g c = let few = c.requires.rows.few in omega (arith, few, length-map c.args.snapshot.now g.R.Row.value)

pub offered-requires-clause-one : goal.offered-requires-clause-one
offered-requires-clause-one g c = c.requires.rows.one

pub returns-in-None : goal.returns-in-None
returns-in-None g c =
    let value = g.R.Row.value in
    let rows = c.args.snapshot.now in
    subst (λ (x : Option Ranges). IfOk c.share.result (λ shown. AreOffered c.args.limits.now x (map value rows) (map value shown))) (sym (ap (option_map area_box) c.in-None.is))
    (offered_nowhere value c.args.limits.now rows c.share.result c.requires.rows c.share.ensures.equal)

pub returns-in-Some : goal.returns-in-Some
returns-in-Some g c =
    let value = g.R.Row.value in
    let rows = c.args.snapshot.now in
    subst (λ (x : Option Ranges). IfOk c.offered.result (λ shown. AreOffered c.args.limits.now x (map value rows) (map value shown))) (sym (ap (option_map area_box) c.in-Some.is))
    (offered_there value c.args.limits.now (area_box c.in-Some.area) rows c.offered.result c.requires.rows c.offered.ensures.inside c.offered.ensures.live c.offered.ensures.among c.offered.ensures.few)
