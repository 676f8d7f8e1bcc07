use Rattle.std.proofs.Common.{◌∙◌, sym, arith}
use Rattle.lms_core.proofs.Given.{key_accepts_by, key_refuses_by}
use Rattle.lms_core.proofs.scheme.accepts_lms.Goals as goal

pub returns-then-eq : goal.returns-then-eq
returns-then-eq c =
    let h = c.in-Some.ensures.cases in
    let a = c.args in
    key_accepts_by a.key.now a.message.now a.signature.now c.in-Some.public.now c.in-Some.rest.now c.lms_verify.result (omega (arith, h.2)) h.0 h.1 (rw (← c.as_slice.ensures, ← c.digest.ensures, ← c.as_slice-in-Some.ensures) (sym c.eq.ensures ∙ c.if-eq.true)) c.lms_verify.ensures

pub returns-else-eq : goal.returns-else-eq
returns-else-eq c =
    let h = c.in-Some.ensures.cases in
    let a = c.args in
    key_refuses_by a.key.now a.message.now a.signature.now c.in-Some.public.now c.eq.result (omega (arith, h.2)) h.0 (rw (← c.as_slice.ensures, ← c.digest.ensures, ← c.as_slice-in-Some.ensures) c.eq.ensures) c.if-eq.false
