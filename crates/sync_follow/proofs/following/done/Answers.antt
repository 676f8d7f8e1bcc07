use Rattle.std.proofs.Common.{ap, refl, arith}
use Rattle.sync_follow.specs.Hearing.{stand_by}
use Rattle.sync_follow.specs.UnderWay.{now_of}
use Rattle.sync_follow.specs.declared.place.Due.{Due}
use Rattle.sync_follow.proofs.Courses.{ends_done, ends_full}
use Rattle.sync_follow.proofs.Shared.{told_few}
use Rattle.sync_follow.proofs.following.done.Goals as goal

pub told-requires : goal.told-requires
told-requires c = told_few c.args.course.now.tally c.requires.counted.1.first (omega (arith, c.requires.counted.1.rows))

pub returns-then-tally-gt0 : goal.returns-then-tally-gt0
returns-then-tally-gt0 c start pass link u =
    let course = c.args.course.now in
    ends_full start (now_of course pass link) u (ap (λ (d : Due). stand_by d course.ear.place.count course.ear.at course.ear.held.items) c.requires.over) (omega (arith, c.if-tally-gt0.true))

pub returns : goal.returns
returns c start pass link u =
    let course = c.args.course.now in
    ends_done start (now_of course pass link) u (ap (λ (d : Due). stand_by d course.ear.place.count course.ear.at course.ear.held.items) c.requires.over) (omega (arith, c.if-tally-gt0.false)) _ refl refl refl refl c.told.ensures
