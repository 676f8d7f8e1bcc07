use Rattle.std.proofs.Common.{refl, subst}
use Rattle.sync_follow.specs.Hearing.{Finds}
use Rattle.sync_follow.specs.declared.find.Found.{Found}
use Rattle.sync_follow.specs.declared.place.Due.TheVariants.{Nothing, Bad}
use Rattle.sync_follow.proofs.Heard.{takes_part, takes_wrong, takes_stop, takes_row}
use Rattle.sync_follow.proofs.take.take.Goals as goal

pub returns-in-More : goal.returns-in-More
returns-in-More c =
    let place = c.args.place.now in
    takes_part c.args.area.now place place c.args.bytes.now c.args.came.now.items c.requires refl (subst (λ (f : Found). Finds place.count c.args.bytes.now f) c.in-More.is c.in_ok-find.ensures)

pub returns-in-Bad : goal.returns-in-Bad
returns-in-Bad c =
    let place = c.args.place.now in
    takes_wrong c.args.area.now place (record place { due = Bad }) c.args.bytes.now c.args.came.now.items c.requires refl (subst (λ (f : Found). Finds place.count c.args.bytes.now f) c.in-Bad.is c.in_ok-find.ensures)

pub returns-in-Stop : goal.returns-in-Stop
returns-in-Stop c =
    let place = c.args.place.now in
    takes_stop c.args.area.now place (record place { due = Nothing }) c.args.bytes.now c.args.came.now.items c.requires c.in-Stop.taken refl (subst (λ (f : Found). Finds place.count c.args.bytes.now f) c.in-Stop.is c.in_ok-find.ensures)

pub returns-in_ok-take_row-in-Row : goal.returns-in_ok-take_row-in-Row
returns-in_ok-take_row-in-Row c =
    let place = c.args.place.now in
    let found = subst (λ (f : Found). Finds place.count c.args.bytes.now f) c.in-Row.is c.in_ok-find.ensures in
    takes_row c.args.area.now place c.take_row.new.place c.args.bytes.now c.args.came.now.items c.requires c.in-Row.taken c.in-Row.row c.take_row.new.came.items found.0 c.in_ok-take_row-in-Row.ensures
