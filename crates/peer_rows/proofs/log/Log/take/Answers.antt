use Rattle.std.proofs.Common.{◌≡◌, None, Ok, Err, ap, sym, subst}
use Rattle.lms_core.specs.Use.{peer_rules}
use Rattle.cap_codec.specs.Rows.{RawValue}
use Rattle.auth_entry.specs.Authorised.{AuthorisedValue, row_refusal, verdict}
use Rattle.auth_entry.proofs.Verdicts.{verdict_ok, verdict_err}
use Rattle.peer_rows.specs.Logged.{Offers}
use Rattle.peer_rows.proofs.Logged.{IsLogOf-refused}
use Rattle.peer_rows.proofs.log.Log.take.Goals as goal

pub keep-requires-clause-namespace : goal.keep-requires-clause-namespace
keep-requires-clause-namespace c =
    let n = c.args.self.now.kept.namespace in
    let judged : Ok c.in-Ok.entry ≡ verdict peer_rules n c.requires.judged.0 = cc in
    ap (λ (a : AuthorisedValue). a.namespace) (verdict_ok peer_rules n c.requires.judged.0 c.in-Ok.entry judged).1

pub keep-requires-clause-authorised : goal.keep-requires-clause-authorised
keep-requires-clause-authorised c =
    let n = c.args.self.now.kept.namespace in
    let judged : Ok c.in-Ok.entry ≡ verdict peer_rules n c.requires.judged.0 = cc in
    let v = verdict_ok peer_rules n c.requires.judged.0 c.in-Ok.entry judged in
    subst (λ (a : AuthorisedValue). row_refusal peer_rules a.namespace a.row ≡ None) (sym v.1) v.0

pub returns-in-Ok-clause-offers : goal.returns-in-Ok-clause-offers
returns-in-Ok-clause-offers c = λ n seen row is log.
    let judged : Ok c.in-Ok.entry ≡ verdict peer_rules n row = cc in
    let same = ap (λ (a : AuthorisedValue). a.row) (verdict_ok peer_rules n row c.in-Ok.entry judged).1 in
    subst (λ (r : RawValue). Offers n seen r c.keep.new.self.kept c.keep.new.self.counts c.keep.result) same (c.keep.ensures.offers n seen log)

pub returns-in-Err-clause-offers : goal.returns-in-Err-clause-offers
returns-in-Err-clause-offers c = λ n seen row is log.
    let judged : Err c.in-Err.refusal ≡ verdict peer_rules n row = cc in
    rw (c.count_refused.ensures.kept, c.count_refused.ensures.counts)
    (IsLogOf-refused n seen c.args.self.now.kept c.args.self.now.counts row c.in-Err.refusal (verdict_err peer_rules n row c.in-Err.refusal judged) log)
