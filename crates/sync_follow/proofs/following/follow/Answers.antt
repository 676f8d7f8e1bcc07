use Rattle.std.proofs.Common.{refl, sym, subst}
use Rattle.sync_follow.specs.UnderWay.{Start, IsBy, IsUnderWay}
use Rattle.sync_follow.proofs.Courses.{begun}
use Rattle.sync_follow.proofs.Shared.{begun_counted, begun_now}
use Rattle.sync_follow.proofs.following.follow.Goals as goal

pub read_all-requires-clause-counted : goal.read_all-requires-clause-counted
read_all-requires-clause-counted g c κs within = begun_counted c.args.area.now c.begin-course.result c.begin-course.ensures

pub report-requires-clause-over : goal.report-requires-clause-over
report-requires-clause-over g c = c.in-Ok.ensures.over

pub report-requires-clause-counted : goal.report-requires-clause-counted
report-requires-clause-counted g c = (c.args.area.now, c.in-Ok.ensures.counted)

pub returns-in-Ok-clause-follows : goal.returns-in-Ok-clause-follows
returns-in-Ok-clause-follows g c =
    let start : Start = record { rules = g.S.Verify.rules; namespace = c.args.cell.now.namespace; area = c.args.area.now; most = g.L.Link.most c.args.link.now; pass = c.args.pass.now; link = g.L.Link.facts c.args.link.now } in
    let by : IsBy start g.S.Verify.rules c.args.cell.now.namespace c.args.area.now (g.L.Link.most c.args.link.now) = record { by_rules = refl; in_namespace = refl; in_area = refl; at_once = refl } in
    let u = subst (IsUnderWay start) (sym (begun_now c.begin-course.result start c.begin-course.ensures)) (begun start c.number-number.ensures.pass) in
    c.report.ensures start c.read_all.new.pass (g.L.Link.facts c.read_all.new.link) (c.in-Ok.ensures.goes_on start by u)

pub returns-clause-follows : goal.returns-clause-follows
returns-clause-follows g c =
    let start : Start = record { rules = g.S.Verify.rules; namespace = c.args.cell.now.namespace; area = c.args.area.now; most = g.L.Link.most c.args.link.now; pass = c.args.pass.now; link = g.L.Link.facts c.args.link.now } in
    let by : IsBy start g.S.Verify.rules c.args.cell.now.namespace c.args.area.now (g.L.Link.most c.args.link.now) = record { by_rules = refl; in_namespace = refl; in_area = refl; at_once = refl } in
    let u = subst (IsUnderWay start) (sym (begun_now c.begin-course.result start c.begin-course.ensures)) (begun start c.number-number.ensures.pass) in
    c.in-Err.ensures.goes_on start by u
