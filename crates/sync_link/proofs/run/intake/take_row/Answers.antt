use Rattle.std.proofs.Common.{◌≡◌, Ok, Err, subst}
use Rattle.spelling.specs.declared.ending.End.{End}
use Rattle.spelling.specs.declared.ending.End.TheVariants as ends
use Rattle.auth_entry.specs.Authorised.{AuthorisedValue, verdict}
use Rattle.ns_state.specs.declared.live_log.LogFull.{LogFull}
use Rattle.ns_cell.specs.Answers.{IsOffered}
use Rattle.auth_entry.specs.Rows.{entry_row}
use Rattle.auth_entry.proofs.Verdicts.{verdict_ok, verdict_err}
use Rattle.sync_link.proofs.Offered.{offered_refused, offered_told, offered_missed, offered_unanswered, later_self}
use Rattle.sync_link.proofs.run.intake.take_row.Goals as goal

pub returns-in-Err-NoMemory-clause-takes : goal.returns-in-Err-NoMemory-clause-takes
returns-in-Err-NoMemory-clause-takes g c start rows row is t =
    let rules = g.S.Verify.rules in
    let n = c.args.cell.now.namespace in
    let judged : Ok c.in-Ok.entry ≡ verdict rules n row = cc in
    let v = verdict_ok rules n row c.in-Ok.entry judged in
    let e : c.in-Err-NoMemory.field-0 ≡ ends.NoMemory = cc in
    let h = subst (λ (x : End LogFull). IsOffered entry_row c.args.pass.now c.in-Ok.entry c.ingest.new.pass (Err x)) e c.in-Err-NoMemory.ensures.offered in
    offered_unanswered rules n start rows row c.args.pass.now c.args.tally.now t c.ingest.new.pass v.0 c.in-Err-NoMemory.ensures.later c.in-Err-NoMemory.ensures.pass
    (subst (λ (x : AuthorisedValue). IsOffered entry_row c.args.pass.now x c.ingest.new.pass (Err ends.NoMemory)) v.1 h)

pub returns-in-Ok-ingest-clause-takes : goal.returns-in-Ok-ingest-clause-takes
returns-in-Ok-ingest-clause-takes g c start rows row is t =
    let rules = g.S.Verify.rules in
    let n = c.args.cell.now.namespace in
    let judged : Ok c.in-Ok.entry ≡ verdict rules n row = cc in
    let v = verdict_ok rules n row c.in-Ok.entry judged in
    let h : IsOffered entry_row c.args.pass.now c.in-Ok.entry c.ingest.new.pass (Ok c.in-Ok-ingest.told) = c.in-Ok-ingest.ensures.offered in
    offered_told rules n start rows row c.args.pass.now c.args.tally.now t c.ingest.new.pass v.0 c.in-Ok-ingest.ensures.later c.in-Ok-ingest.ensures.pass c.in-Ok-ingest.told
    (subst (λ (x : AuthorisedValue). IsOffered entry_row c.args.pass.now x c.ingest.new.pass (Ok c.in-Ok-ingest.told)) v.1 h) c.with_told.result c.with_told.ensures

pub returns-in-Err-Refused-clause-takes : goal.returns-in-Err-Refused-clause-takes
returns-in-Err-Refused-clause-takes g c start rows row is t =
    let rules = g.S.Verify.rules in
    let n = c.args.cell.now.namespace in
    let judged : Ok c.in-Ok.entry ≡ verdict rules n row = cc in
    let v = verdict_ok rules n row c.in-Ok.entry judged in
    let e : c.in-Err-Refused.field-0 ≡ ends.Refused c.in-Err-Refused.full = cc in
    let h = subst (λ (x : End LogFull). IsOffered entry_row c.args.pass.now c.in-Ok.entry c.ingest.new.pass (Err x)) e c.in-Err-Refused.ensures.offered in
    offered_missed rules n start rows row c.args.pass.now c.args.tally.now t c.ingest.new.pass v.0 c.in-Err-Refused.ensures.later c.in-Err-Refused.ensures.pass c.in-Err-Refused.full
    (subst (λ (x : AuthorisedValue). IsOffered entry_row c.args.pass.now x c.ingest.new.pass (Err (ends.Refused c.in-Err-Refused.full))) v.1 h) c.with_told-in-Err-Refused.result c.with_told-in-Err-Refused.ensures

pub returns-in-Err-clause-takes : goal.returns-in-Err-clause-takes
returns-in-Err-clause-takes g c start rows row is t =
    let rules = g.S.Verify.rules in
    let n = c.args.cell.now.namespace in
    let judged : Err c.in-Err.refusal ≡ verdict rules n row = cc in
    offered_refused rules n start rows row c.args.pass.now c.args.tally.now t c.in-Err.refusal (verdict_err rules n row c.in-Err.refusal judged) c.with_refused.result c.with_refused.ensures

pub returns-in-Err-clause-later : goal.returns-in-Err-clause-later
returns-in-Err-clause-later g c = later_self c.args.pass.now
