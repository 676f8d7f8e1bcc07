use Rattle.std.proofs.Common.{map, Ok, Err, sym, ap, ◌∙◌, subst}
use Rattle.std.proofs.lemmas.Result.{err_from_is_err_and}
use Rattle.sync_msg.specs.declared.item.Item.TheVariants as items
use Rattle.sync_core.specs.Held.{ask_value, due_in, hearing_in, owed_value}
use Rattle.sync_core.specs.Hears.{Does, KeepsDue}
use Rattle.sync_core.proofs.Due.{due_refused, due_read}
use Rattle.sync_core.proofs.head.row_read.Goals as goal

pub returns-in_err-row_kept : goal.returns-in_err-row_kept
returns-in_err-row_kept g c = λ rows.
    let ear = c.args.ear.now in
    let new = c.row_kept.new.ear in
    let row = g.Q.Row.value c.args.row.now in
    let due = due_in (map (owed_value rows) ear.owed.items) (map ask_value ear.opens.items) ear.due (items.Row row) in
    let p = err_from_is_err_and c.from_residual.result c.from_residual.ensures.1 in
    subst (λ r. Does (hearing_in rows ear) (hearing_in rows new) due r) (sym (p.1 ∙ ap Err p.2))
    (due_refused rows ear new row ear.due new.due c.in_err-row_kept.field-0.0 c.in_err-row_kept.ensures.keeps)

pub returns-in-Some : goal.returns-in-Some
returns-in-Some g c = λ rows.
    let ear = c.args.ear.now in
    let new = c.row_kept.new.ear in
    let row = g.Q.Row.value c.args.row.now in
    due_read rows ear new row ear.due c.in-Some.due (subst (λ due. KeepsDue ear new ear.due due row (Ok tt)) (sym c.in-Some.ensures.value) c.in_ok-row_kept.ensures.keeps)
    ∙ ap Ok (sym (c.settle.ensures rows))
