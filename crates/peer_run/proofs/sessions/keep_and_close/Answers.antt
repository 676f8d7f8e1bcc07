use Rattle.std.proofs.Common.{inl, inr, refl}
use Rattle.std.specs.Prelude.{IfOk, IfErr, Result, Ok, Err}
use Rattle.std.proofs.lemmas.Result.{err_from_is_err_and}
use Rattle.peer_run.proofs.sessions.keep_and_close.Goals as goal

-- what holds at each end holds where it is Ok
at_ok : {A E P : Type 0} (end : Result A E) → P → IfOk end (λ x. P)
at_ok (Ok x) holds = holds
at_ok (Err e) holds = tt

-- the same where it stops
at_stop : {A E P : Type 0} (end : Result A E) → P → IfErr end (λ e. P)
at_stop (Ok x) holds = tt
at_stop (Err e) holds = holds

-- no image was put
pub returns-in_err-keep_rest-clause-told : goal.returns-in_err-keep_rest-clause-told
returns-in_err-keep_rest-clause-told g c =
    let p = err_from_is_err_and c.from_residual.result c.from_residual.ensures.1 in
    rw (p.1, p.2) (λ others. record { does = refl; read_faults = refl; write_faults = refl; others = refl })

pub returns-clause-kept : goal.returns-clause-kept
returns-clause-kept g c = at_ok _ c.in_ok-keep_rest.ensures.kept

pub returns-clause-stops : goal.returns-clause-stops
returns-clause-stops g c = at_stop _ (inl c.in_ok-keep_rest.ensures.kept)

pub returns-in_err-keep_rest-clause-stops : goal.returns-in_err-keep_rest-clause-stops
returns-in_err-keep_rest-clause-stops g c = at_stop _ (inr c.in_err-keep_rest.ensures.stops)
