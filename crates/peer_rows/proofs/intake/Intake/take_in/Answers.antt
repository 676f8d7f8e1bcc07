use Rattle.std.proofs.Common.{◌++◌, subst, arith, length-append}
use Rattle.peer_rows.specs.Stored.{TakesRows}
use Rattle.peer_rows.specs.declared.log.Log.{Log}
use Rattle.peer_rows.proofs.Waiting.{waits_on, judged_takes, judging_longer}
use Rattle.peer_rows.proofs.intake.Intake.take_in.Goals as goal

pub judge-requires-clause-few : goal.judge-requires-clause-few
judge-requires-clause-few g c κs within =
    let was = c.requires.few in
    (was.0, was.1 ++ c.args.rows.items, waits_on was.0 was.1 c.args.self.now was.2 c.args.rows.items c.wait.new.self c.wait.ensures.log c.in_ok-wait.ensures.waits, omega (arith, was.3, length-append was.1 c.args.rows.items))

pub returns-clause-takes : goal.returns-clause-takes
returns-clause-takes g c = λ n before was.
    let all = before ++ c.args.rows.items in
    subst (λ (l : Log). TakesRows n all l c.judge.new.self c.judge.result) c.wait.ensures.log
    (judged_takes n all c.wait.new.self.log c.judge.new.self c.judge.result
    (c.judge.ensures.judges n all (waits_on n before c.args.self.now was c.args.rows.items c.wait.new.self c.wait.ensures.log c.in_ok-wait.ensures.waits)))

pub returns-clause-longer : goal.returns-clause-longer
returns-clause-longer g c =
    let was = c.requires.few in
    let all = was.1 ++ c.args.rows.items in
    let taken = waits_on was.0 was.1 c.args.self.now was.2 c.args.rows.items c.wait.new.self c.wait.ensures.log c.in_ok-wait.ensures.waits in
    judging_longer was.0 all c.args.self.now.log c.wait.new.self c.judge.new.self c.judge.result c.wait.ensures.log taken (c.judge.ensures.judges was.0 all taken)
