use Rattle.std.proofs.Common.{List, ◌∷◌, Some, length, sym, ap, ◌∙◌, subst, arith}
use Rattle.link_host.specs.Begun.{Begun, IsAccepted}
use Rattle.link_host.proofs.Coming.{none_came_for, one_more_came}
use Rattle.link_host.proofs.Passing.{left_have}
use Rattle.link_host.proofs.accepting.accept_all.Goals as goal

pub loop-job-preserved : goal.loop-job-preserved
loop-job-preserved g c =
    let inv = c.loop-job.invariant in
    let next = c.in-Some.ensures.items in
    let came = c.in_default-accept.ensures in
    let begun = came.begins in
    record {
      may = left_have (g.H.Host.may c.args.host.now) c.loop-job.left.items c.pop_front.new.self.items c.in-Some.job next inv.may;
      host = begun.2 ∙ inv.host;
      have =
          one_more_came c.args.jobs.items (g.D.Door.facts c.args.door.now) (g.D.Door.facts c.loop-job.door) (g.D.Door.facts c.accept.new.door) c.loop-job.workers.begun c.accept.new.self.begun c.loop-job.left.items c.pop_front.new.self.items
          c.in-Some.job begun.0 inv.have next begun.3 came.accepts came.out came.asked came.back came.cause;
      room = omega (arith, begun.4, ap length next, inv.room);
    }

-- the job for which none came stands in front of those that are left
pub returns-in-Err-clause-accepted : goal.returns-in-Err-clause-accepted
returns-in-Err-clause-accepted g c =
    let jobs = c.args.jobs.items in
    let old = g.D.Door.facts c.args.door.now in
    let new = g.D.Door.facts c.accept.new.door in
    let failed = c.in-Err.ensures in
    let left = c.pop_front.new.self.items in
    let fault = Some c.in-Err.field-0.fault in
    let so = none_came_for jobs old (g.D.Door.facts c.loop-job.door) new c.loop-job.workers.begun c.loop-job.left.items left c.in-Some.job c.in-Err.field-0.fault c.loop-job.invariant.have c.in-Some.ensures.items failed.accepts failed.out failed.asked failed.back failed.cause in
    let again = c.push_front_reserved.ensures.items ∙ ap (λ job. job ∷ left) failed.begins.0 in
    subst (λ (begun : List (Begun g.row.H-Job.Denot)). IsAccepted jobs old new begun c.push_front_reserved.new.self.items fault) (sym (ap (λ w. w.begun) failed.begins.1))
    (subst (λ (rest : List g.row.H-Job.Denot). IsAccepted jobs old new c.loop-job.workers.begun rest fault) (sym again) so)
