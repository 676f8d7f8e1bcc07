use Rattle.std.proofs.Common.{length}
use Rattle.log_keeper.specs.Torn.{IsTornOf}
use Rattle.log_keeper.proofs.Moments.{started, goes_on, settled_torn, write_torn}
use Rattle.log_keeper.proofs.settling.write_settled.Goals as goal

pub returns-in_err-write_at-clause-moments : goal.returns-in_err-write_at-clause-moments
returns-in_err-write_at-clause-moments g c =
    let moment = g.D.Disk.moment in
    let left_since = g.D.Disk.left_since in
    let old = c.args.disk.now in
    let contents = (g.D.Disk.facts old).contents in
    let n = length c.args.bytes.now in
    let P = IsTornOf contents c.args.at n in
    let at_start = started moment left_since old P (λ f left. settled_torn contents c.args.at n (g.D.Disk.may_leave old) c.requires.settled f (g.met.D.Disk.only_now old f left)) in
    goes_on moment left_since old old c.write_at.new.self P (g.D.Disk.may_leave c.write_at.new.self) at_start c.write_at.ensures.time (write_torn contents c.args.at n (g.D.Disk.may_leave old) (g.D.Disk.may_leave c.write_at.new.self) c.requires.settled c.write_at.ensures.images)

pub returns-clause-moments : goal.returns-clause-moments
returns-clause-moments g c =
    let moment = g.D.Disk.moment in
    let left_since = g.D.Disk.left_since in
    let old = c.args.disk.now in
    let contents = (g.D.Disk.facts old).contents in
    let n = length c.args.bytes.now in
    let P = IsTornOf contents c.args.at n in
    let at_start = started moment left_since old P (λ f left. settled_torn contents c.args.at n (g.D.Disk.may_leave old) c.requires.settled f (g.met.D.Disk.only_now old f left)) in
    let torn = write_torn contents c.args.at n (g.D.Disk.may_leave old) (g.D.Disk.may_leave c.write_at.new.self) c.requires.settled c.write_at.ensures.images in
    let wrote = goes_on moment left_since old old c.write_at.new.self P (g.D.Disk.may_leave c.write_at.new.self) at_start c.write_at.ensures.time torn in
    goes_on moment left_since old c.write_at.new.self c.sync.new.self P (g.D.Disk.may_leave c.sync.new.self) wrote c.sync.ensures.time (λ f left. torn f (c.sync.ensures.images f left))
