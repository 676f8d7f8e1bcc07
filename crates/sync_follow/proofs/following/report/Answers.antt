use Rattle.std.proofs.Common.{ap}
use Rattle.sync_follow.specs.Hearing.{stand_by}
use Rattle.sync_follow.specs.UnderWay.{now_of}
use Rattle.sync_follow.specs.declared.place.Due.{Due}
use Rattle.sync_follow.proofs.Courses.{ends_bad, ends_outside}
use Rattle.sync_follow.proofs.following.report.Goals as goal

pub returns-in-Bad : goal.returns-in-Bad
returns-in-Bad c start pass link u =
    let course = c.args.course.now in
    ends_bad start (now_of course pass link) u course.ear.at (ap (λ (d : Due). stand_by d course.ear.place.count course.ear.at course.ear.held.items) c.in-Bad.is)

pub returns-in-Outside : goal.returns-in-Outside
returns-in-Outside c start pass link u =
    let course = c.args.course.now in
    ends_outside start (now_of course pass link) u (ap (λ (d : Due). stand_by d course.ear.place.count course.ear.at course.ear.held.items) c.in-Outside.is)
