use Rattle.std.proofs.Common.{◌∙◌, sym}
use Rattle.lms_core.proofs.Accepting.{accepts_by_root, refuses_unsound}
use Rattle.lms_core.proofs.verify.lms_verify.Goals as goal

pub returns-in-Some : goal.returns-in-Some
returns-in-Some c =
    let a = c.args in
    accepts_by_root a.public.now a.message.now a.signature.now c.in-Some.height c.eq.result (sym c.sound.ensures.value ∙ c.in-Some.is) (rw (← c.field_at.ensures, ← c.told_root-root.ensures, ← c.as_slice.ensures) c.eq.ensures)

pub returns-in-None : goal.returns-in-None
returns-in-None c = refuses_unsound c.args.public.now c.args.message.now c.args.signature.now (sym c.sound.ensures.value ∙ c.in-None.is)
