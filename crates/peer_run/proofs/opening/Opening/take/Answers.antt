use Rattle.std.proofs.Common.{◌≡◌, None, Ok, Err, ap, sym, subst}
use Rattle.lms_core.specs.Use.{peer_rules}
use Rattle.auth_entry.specs.Authorised.{AuthorisedValue, row_refusal, verdict}
use Rattle.auth_entry.proofs.Verdicts.{verdict_ok, verdict_err}
use Rattle.peer_run.specs.Opening.{IsOpened, TakesRow}
use Rattle.peer_run.proofs.Opened.{opened_refused}
use Rattle.peer_run.proofs.opening.Opening.take.Goals as goal

pub keep-requires-clause-namespace : goal.keep-requires-clause-namespace
keep-requires-clause-namespace c =
    let n = c.args.self.now.state.namespace in
    let judged : Ok c.in-Ok.entry ≡ verdict peer_rules n c.requires.judged.0 = cc in
    ap (λ (a : AuthorisedValue). a.namespace) (verdict_ok peer_rules n c.requires.judged.0 c.in-Ok.entry judged).1

pub keep-requires-clause-authorised : goal.keep-requires-clause-authorised
keep-requires-clause-authorised c =
    let n = c.args.self.now.state.namespace in
    let judged : Ok c.in-Ok.entry ≡ verdict peer_rules n c.requires.judged.0 = cc in
    let v = verdict_ok peer_rules n c.requires.judged.0 c.in-Ok.entry judged in
    subst (λ (a : AuthorisedValue). row_refusal peer_rules a.namespace a.row ≡ None) (sym v.1) v.0

pub returns-in-Ok : goal.returns-in-Ok
returns-in-Ok c = λ n seen row is.
    let judged : Ok c.in-Ok.entry ≡ verdict peer_rules n row = cc in
    let v = verdict_ok peer_rules n row c.in-Ok.entry judged in
    subst (λ (a : AuthorisedValue). IsOpened a.namespace seen c.args.self.now → TakesRow a.namespace seen a.row c.keep.new.self c.keep.result) v.1 (c.keep.ensures seen)

pub returns-in-Err : goal.returns-in-Err
returns-in-Err c = λ n seen row is opened.
    let judged : Err c.in-Err.refusal ≡ verdict peer_rules n row = cc in
    rw c.leave_out.ensures (opened_refused n seen c.args.self.now row opened c.in-Err.refusal (verdict_err peer_rules n row c.in-Err.refusal judged))
