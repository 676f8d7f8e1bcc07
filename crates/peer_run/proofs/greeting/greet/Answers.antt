use Rattle.std.proofs.Common.{◌≡◌, false, inr, subst}
use Rattle.std.proofs.lemmas.Result.{err_from_is_err_and}
use Rattle.willow_area.specs.declared.area.Area.{Area}
use Rattle.peer_words.specs.Areas.{Completes, completed, is_empty}
use Rattle.peer_run.proofs.Hellos.{greets, refuses_first, refuses_last}
use Rattle.peer_run.proofs.greeting.greet.Goals as goal

-- without memory for a path there are times
pub returns-in_err-ask : goal.returns-in_err-ask
returns-in_err-ask c =
    let p = err_from_is_err_and c.from_residual-in_err-ask.result c.from_residual-in_err-ask.ensures.1 in
    rw (p.1, p.2) (inr (subst (λ (area : Area). is_empty (completed c.args.words.now area) ≡ false) c.in_ok-granted_area.ensures.granted c.in_err-ask.ensures.times))

pub returns-in_err-judge-in-None : goal.returns-in_err-judge-in-None
returns-in_err-judge-in-None c =
    let p = err_from_is_err_and c.from_residual-in_err-judge-in-None.result c.from_residual-in_err-judge-in-None.ensures.1 in
    let none = rw c.in-None.is at (subst (λ (area : Area). Completes c.args.words.now area c.in_ok-ask.field-0) c.in_ok-granted_area.ensures.granted c.in_ok-ask.ensures.completes) in
    rw (p.1, p.2) (refuses_first c.args.namespace.now c.args.words.now c.args.capability c.args.nonce c.in_ok-granted-in-None.granted c.hello_of-in-None.result c.in_err-judge-in-None.field-0.0
    none c.in_ok-granted-in-None.ensures.granted c.hello_of-in-None.ensures c.in_err-judge-in-None.ensures)

pub returns-in-Some : goal.returns-in-Some
returns-in-Some c =
    let whole = rw c.in-Some.is at (subst (λ (area : Area). Completes c.args.words.now area c.in_ok-ask.field-0) c.in_ok-granted_area.ensures.granted c.in_ok-ask.ensures.completes) in
    greets c.args.namespace.now c.args.words.now c.args.capability c.args.nonce c.in-Some.ask c.hello_of.result c.judge.result whole.0 whole.1 c.hello_of.ensures c.judge.ensures

pub returns-in_ok-judge-in-None : goal.returns-in_ok-judge-in-None
returns-in_ok-judge-in-None c =
    let none = rw c.in-None.is at (subst (λ (area : Area). Completes c.args.words.now area c.in_ok-ask.field-0) c.in_ok-granted_area.ensures.granted c.in_ok-ask.ensures.completes) in
    refuses_last c.args.namespace.now c.args.words.now c.args.capability c.args.nonce c.in_ok-granted-in-None.granted c.hello_of-in-None.result c.in_ok-judge-in-None.field-0
    none c.in_ok-granted-in-None.ensures.granted c.hello_of-in-None.ensures c.in_ok-judge-in-None.ensures
