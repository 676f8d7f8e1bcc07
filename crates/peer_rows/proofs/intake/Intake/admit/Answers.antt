use Rattle.std.proofs.Common.{inl, ◌∷◌, [], ◌++◌, subst, arith, length-append}
use Rattle.std.proofs.lemmas.Result.{err_from_is_err_and}
use Rattle.peer_rows.specs.Stored.{AdmitsRow}
use Rattle.peer_rows.specs.declared.log.Log.{Log}
use Rattle.peer_rows.proofs.Imaged.{judged_admits}
use Rattle.peer_rows.proofs.Waiting.{waits_on}
use Rattle.peer_rows.proofs.intake.Intake.admit.Goals as goal

pub returns-in_err-hold-clause-admits : goal.returns-in_err-hold-clause-admits
returns-in_err-hold-clause-admits g c = λ n rows was.
    let p = err_from_is_err_and c.from_residual.result c.from_residual.ensures.1 in
    rw (p.1, p.2) (inl c.hold.ensures.log)

pub returns-then-len-lt-TOGETHER-clause-admits : goal.returns-then-len-lt-TOGETHER-clause-admits
returns-then-len-lt-TOGETHER-clause-admits g c = λ n rows was. waits_on n rows c.args.self.now was (c.args.row ∷ []) c.hold.new.self c.hold.ensures.log c.in_ok-hold.ensures.waits

pub judge-requires-clause-few : goal.judge-requires-clause-few
judge-requires-clause-few g c κs within =
    let was = c.requires.few in
    (was.0, was.1 ++ c.args.row ∷ [], waits_on was.0 was.1 c.args.self.now was.2 (c.args.row ∷ []) c.hold.new.self c.hold.ensures.log c.in_ok-hold.ensures.waits, omega (arith, was.3, length-append was.1 (c.args.row ∷ [])))

pub returns-clause-admits : goal.returns-clause-admits
returns-clause-admits g c = λ n rows was.
    let all = rows ++ c.args.row ∷ [] in
    subst (λ (l : Log). AdmitsRow n all l c.judge.new.self c.judge.result) c.hold.ensures.log
    (judged_admits n all c.hold.new.self.log c.judge.new.self c.judge.result (c.judge.ensures.judges n all (waits_on n rows c.args.self.now was (c.args.row ∷ []) c.hold.new.self c.hold.ensures.log c.in_ok-hold.ensures.waits)))
