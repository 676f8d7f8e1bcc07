use Rattle.std.proofs.Common.{map, ap, Option}
use Rattle.std.specs.Prelude.{option_map}
use Rattle.std.proofs.lemmas.Result.{err_from_is_err_and}
use Rattle.willow_area.specs.AreaBox.{area_box}
use Rattle.willow_area.specs.declared.area.Area.{Area}
use Rattle.auth_entry.specs.Rows.{entry_row}
use Rattle.peer_run.specs.Exchanged.{boxed}
use Rattle.peer_run.proofs.Swapped.{offered_one, offered_framed, left_here, right_here, met_of, left_past, right_past, are_met}
use Rattle.peer_run.proofs.exchanging.exchange.Goals as goal

pub meet_rows-requires-clause-left_one : goal.meet_rows-requires-clause-left_one
meet_rows-requires-clause-left_one c = offered_one c.args.limits.now (boxed c.args.area.now) c.args.left.now (map entry_row c.in_ok-left_rows.left_rows) c.in_ok-left_rows.ensures.offers c.in_ok-left_rows.ensures.log

pub meet_rows-requires-clause-left_framed : goal.meet_rows-requires-clause-left_framed
meet_rows-requires-clause-left_framed c = offered_framed c.args.limits.now (boxed c.args.area.now) c.args.left.now (map entry_row c.in_ok-left_rows.left_rows) c.in_ok-left_rows.ensures.offers c.requires.left_frames

pub meet_rows-requires-clause-right_one : goal.meet_rows-requires-clause-right_one
meet_rows-requires-clause-right_one c = offered_one c.args.limits.now (boxed c.args.area.now) c.args.right.now (map entry_row c.in_ok-right_rows.right_rows) c.in_ok-right_rows.ensures.offers c.in_ok-right_rows.ensures.log

pub meet_rows-requires-clause-right_framed : goal.meet_rows-requires-clause-right_framed
meet_rows-requires-clause-right_framed c =
    offered_framed c.args.limits.now (boxed c.args.area.now) c.args.right.now (map entry_row c.in_ok-right_rows.right_rows) c.in_ok-right_rows.ensures.offers c.requires.right_frames

pub take-requires : goal.take-requires
take-requires c =
    left_here c.args.limits.now (boxed c.args.area.now) c.args.left.now c.args.right.now (map entry_row c.in_ok-left_rows.left_rows) (map entry_row c.in_ok-right_rows.right_rows) _ c.in_ok-run.run' c.in_ok-run.ensures.meeting
    c.requires.one_namespace c.in_ok-right_rows.ensures.log c.in_ok-right_rows.ensures.offers

pub take-requires-2 : goal.take-requires-2
take-requires-2 c =
    right_here c.args.limits.now (boxed c.args.area.now) c.args.left.now c.args.right.now (map entry_row c.in_ok-left_rows.left_rows) (map entry_row c.in_ok-right_rows.right_rows) _ c.in_ok-run.run' c.in_ok-run.ensures.meeting
    c.requires.one_namespace c.in_ok-left_rows.ensures.log c.in_ok-left_rows.ensures.offers

pub returns-in_err-left : goal.returns-in_err-left
returns-in_err-left c = λ a b takes takes_too.
    let p = err_from_is_err_and c.from_residual-in_err-left.result c.from_residual-in_err-left.ensures.1 in
    let box = boxed c.args.area.now in
    let limits = c.args.limits.now in
    let is = met_of a b c.args.left.now c.args.right.now (map entry_row c.in_ok-left_rows.left_rows) (map entry_row c.in_ok-right_rows.right_rows) _ box limits c.in_ok-run.run' takes takes_too c.in_ok-left_rows.ensures.offers c.in_ok-right_rows.ensures.offers
    (ap (λ (x : Option Area). option_map area_box x) c.as_ref.ensures.value) c.in_ok-run.ensures.meeting in
    rw (p.1, p.2) (left_past a b box limits c.in_ok-run.run' is c.take.new.log c.args.right.now c.in_err-left.field-0.0 (c.in_err-left.ensures a takes))

pub returns-in_err-right : goal.returns-in_err-right
returns-in_err-right c = λ a b takes takes_too.
    let p = err_from_is_err_and c.from_residual-in_err-right.result c.from_residual-in_err-right.ensures.1 in
    let box = boxed c.args.area.now in
    let limits = c.args.limits.now in
    let is = met_of a b c.args.left.now c.args.right.now (map entry_row c.in_ok-left_rows.left_rows) (map entry_row c.in_ok-right_rows.right_rows) _ box limits c.in_ok-run.run' takes takes_too c.in_ok-left_rows.ensures.offers c.in_ok-right_rows.ensures.offers
    (ap (λ (x : Option Area). option_map area_box x) c.as_ref.ensures.value) c.in_ok-run.ensures.meeting in
    rw (p.1, p.2) (right_past a b box limits c.in_ok-run.run' is c.take.new.log c.take-2.new.log c.in_err-right.field-0.0 (c.in_err-right.ensures b takes_too))

pub returns : goal.returns
returns c = λ a b takes takes_too.
    let box = boxed c.args.area.now in
    let limits = c.args.limits.now in
    let is = met_of a b c.args.left.now c.args.right.now (map entry_row c.in_ok-left_rows.left_rows) (map entry_row c.in_ok-right_rows.right_rows) _ box limits c.in_ok-run.run' takes takes_too c.in_ok-left_rows.ensures.offers c.in_ok-right_rows.ensures.offers
    (ap (λ (x : Option Area). option_map area_box x) c.as_ref.ensures.value) c.in_ok-run.ensures.meeting in
    are_met a b box limits c.in_ok-run.run' is c.take.new.log c.take-2.new.log c.in_ok-left.left c.in_ok-right.right (c.in_ok-left.ensures a takes) (c.in_ok-right.ensures b takes_too)
