use Rattle.std.proofs.Common.{◌≡◌, List, map, ap, sym, ◌∙◌, subst, Option, Some, None}
use Rattle.std.specs.Prelude.{IfOk}
use Rattle.willow_area.specs.AreaBox.{area_box}
use Rattle.willow_area.specs.Boxes.{Ranges}
use Rattle.willow_area.specs.declared.area.Area.{Area}
use Rattle.willow_entry.specs.Row.{RowValue}
use Rattle.auth_entry.specs.Rows.{entry_row}
use Rattle.peer_rows.specs.Logged.{live_rows}
use Rattle.peer_run.specs.Exchanged.{boxed}
use Rattle.peer_run.specs.Offered.{no_limits, offer}
use Rattle.peer_run.proofs.Offers.{offered_there}
use Rattle.peer_run.proofs.Swapped.{offered_one}
use Rattle.peer_run.proofs.exchanging.offer_of.Goals as goal

pub offered-requires-clause-one : goal.offered-requires-clause-one
offered-requires-clause-one c = offered_one no_limits None c.args.log.now (map entry_row c.in_ok-snapshot.snapshot) c.in_ok-snapshot.ensures.live c.in_ok-snapshot.ensures.log

pub returns-in-None-clause-offers : goal.returns-in-None-clause-offers
returns-in-None-clause-offers c = c.in_ok-snapshot.ensures.live ∙ sym (ap (λ (area : Option Area). offer c.args.limits.now (boxed area) (live_rows c.args.log.now)) c.in-None.is)

pub returns-in-Some-clause-offers : goal.returns-in-Some-clause-offers
returns-in-Some-clause-offers c =
    let limits = c.args.limits.now in
    let x = area_box c.in-Some.area in
    let there = offered_there entry_row limits x c.in_ok-snapshot.snapshot c.offered.result c.offered.ensures.limited c.offered.ensures.unlimited in
    subst (λ (box : Option Ranges). IfOk c.offered.result (λ shown. map entry_row shown ≡ offer limits box (live_rows c.args.log.now))) (sym (ap boxed c.in-Some.is))
    (subst (λ (rows : List RowValue). IfOk c.offered.result (λ shown. map entry_row shown ≡ offer limits (Some x) rows)) c.in_ok-snapshot.ensures.live there)
