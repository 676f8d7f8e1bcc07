use Rattle.std.proofs.Common.{map, sym, subst}
use Rattle.sync_msg.specs.Items.{item_value}
use Rattle.sync_msg.specs.declared.item.Item.{Item}
use Rattle.sync_core.specs.Held.{ask_value, due_in, hearing_in, owed_value}
use Rattle.sync_core.specs.Hears.{Does}
use Rattle.sync_core.proofs.head.row_due.Goals as goal

pub returns-in-Row : goal.returns-in-Row
returns-in-Row g c = λ rows.
    let ear = c.args.ear.now in
    let due = due_in (map (owed_value rows) ear.owed.items) (map ask_value ear.opens.items) ear.due in
    subst (λ (i : Item g.row.Q.Denot). Does (hearing_in rows ear) (hearing_in rows c.row_read.new.ear) (due (item_value g.Q.Row.value i)) c.row_read.result) (sym c.in-Row.is) (c.row_read.ensures rows)
