use Rattle.std.proofs.Common.{rules, ◌≡◌, map, false}
use Rattle.std.specs.Prelude.{IsSome, is_some}
use Rattle.sync_msg.specs.Items.{item_value}
use Rattle.sync_core.proofs.Hearing.{does_first, does_bye, does_row, does_head, none_from}
use Rattle.sync_core.proofs.hear.hear.Goals as goal

pub returns-in-Beginning-clause-does : goal.returns-in-Beginning-clause-does
returns-in-Beginning-clause-does g c =
    let rows = map g.R.Row.value c.args.snapshot.now in
    does_first c.args.version c.args.area.now rows c.args.work.now (item_value g.Q.Row.value c.args.item.now) c.first.result c.first.new.work c.in-Beginning.is (c.first.ensures.does rows)

pub returns-in-Beginning-clause-ready : goal.returns-in-Beginning-clause-ready
returns-in-Beginning-clause-ready g c = c.first.ensures.ready (map g.R.Row.value c.args.snapshot.now) c.requires.ready

pub returns-in-Hearing-clause-does : goal.returns-in-Hearing-clause-does
returns-in-Hearing-clause-does g c =
    let rows = map g.R.Row.value c.args.snapshot.now in
    let some : IsSome c.args.work.now.ear.due = search rules in
    does_row c.args.version c.args.area.now rows c.args.work.now (item_value g.Q.Row.value c.args.item.now) c.row_due.result c.row_due.new.ear c.in-Hearing.is some (c.row_due.ensures rows)

pub returns-in-Hearing-3-clause-does : goal.returns-in-Hearing-3-clause-does
returns-in-Hearing-3-clause-does g c =
    let rows = map g.R.Row.value c.args.snapshot.now in
    let none : is_some c.args.work.now.ear.due ≡ false = search rules in
    does_head c.args.version c.args.area.now rows c.args.work.now (item_value g.Q.Row.value c.args.item.now) c.head.result c.head.new.ear c.in-Hearing.is (none_from c.args.work.now.ear.due none) (c.head.ensures rows)

pub returns-in-Parting-clause-does : goal.returns-in-Parting-clause-does
returns-in-Parting-clause-does g c =
    let rows = map g.R.Row.value c.args.snapshot.now in
    does_bye c.args.version c.args.area.now rows c.args.work.now (item_value g.Q.Row.value c.args.item.now) c.farewell.result c.farewell.new.work c.in-Parting.is (c.farewell.ensures.does rows)

pub returns-in-Parting-clause-ready : goal.returns-in-Parting-clause-ready
returns-in-Parting-clause-ready g c = c.farewell.ensures.ready (map g.R.Row.value c.args.snapshot.now) c.requires.ready
