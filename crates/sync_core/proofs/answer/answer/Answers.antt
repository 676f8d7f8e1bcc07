use Rattle.std.proofs.Common.{◌≡◌, true, false, [], map, sym, ap, ◌∙◌, subst}
use Rattle.std.specs.Prelude.{OnOk}
use Rattle.std.proofs.lemmas.Result.{on_ok_weaker}
use Rattle.willow_entry.specs.Entry.{same_bytes}
use Rattle.block_store.specs.Fingerprint.{fingerprint_of}
use Rattle.block_store.specs.InBox.{rows_in}
use Rattle.exchange_rules.specs.Items as rules
use Rattle.exchange_rules.specs.Answer.{reply, lacking}
use Rattle.sync_core.specs.SyncRules.{sync_rules}
use Rattle.sync_core.specs.Held.{ask_value}
use Rattle.sync_core.specs.Answers.{Adds}
use Rattle.sync_core.specs.declared.ask.Ask.{Ask}
use Rattle.sync_core.proofs.Telling.{reply_same, reply_differs, reply_sent}
use Rattle.sync_core.proofs.answer.answer.Goals as goal

pub returns-then-eq : goal.returns-then-eq
returns-then-eq g c =
    let rows = map g.R.Row.value c.args.snapshot.now in
    let area = c.in-Print.area in
    let print = c.in-Print.print in
    let same : same_bytes print (fingerprint_of (rows_in area rows)) ≡ true = ap (same_bytes print) (sym c.print_of.ensures) ∙ sym c.eq.ensures ∙ c.if-eq.true in
    let e = ap (λ (a : Ask). reply (sync_rules c.args.version) rows (ask_value a)) c.in-Print.is ∙ reply_same c.args.version rows area print same in
    subst (λ r. OnOk c.agree.result (Adds c.args.version rows c.args.turn.now c.agree.new.turn r)) (sym e) (on_ok_weaker c.agree.result (λ h. h c.args.version rows) c.agree.ensures)

pub returns-else-eq : goal.returns-else-eq
returns-else-eq g c =
    let rows = map g.R.Row.value c.args.snapshot.now in
    let area = c.in-Print.area in
    let print = c.in-Print.print in
    let other : same_bytes print (fingerprint_of (rows_in area rows)) ≡ false = ap (same_bytes print) (sym c.print_of.ensures) ∙ sym c.eq.ensures ∙ c.if-eq.false in
    let e = ap (λ (a : Ask). reply (sync_rules c.args.version) rows (ask_value a)) c.in-Print.is ∙ reply_differs c.args.version rows area print other in
    subst (λ r. OnOk c.differ.result (Adds c.args.version rows c.args.turn.now c.differ.new.turn r)) (sym e) c.differ.ensures

pub returns-in-Sent : goal.returns-in-Sent
returns-in-Sent g c =
    let rows = map g.R.Row.value c.args.snapshot.now in
    let area = c.in-Sent.area in
    let e = ap (λ (a : Ask). reply (sync_rules c.args.version) rows (ask_value a)) c.in-Sent.is ∙ reply_sent c.args.version rows area c.in-Sent.rows.items
    ∙ ap (λ s. record { item = rules.Rest (lacking (sync_rules c.args.version) rows area s); opens = [] }) (sym c.deref.ensures.value) in
    subst (λ r. OnOk c.rest.result (Adds c.args.version rows c.args.turn.now c.rest.new.turn r)) (sym e) (on_ok_weaker c.rest.result (λ h. h c.args.version) c.rest.ensures)
