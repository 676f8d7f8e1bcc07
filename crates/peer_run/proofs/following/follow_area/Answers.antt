use Rattle.lms_core.specs.Use.{peer_rules}
use Rattle.sync_follow.specs.UnderWay.{Start, first_now}
use Rattle.sync_follow.proofs.Courses.{begun, ends_wanting}
use Rattle.peer_run.proofs.following.follow_area.Goals as goal

-- where there is no memory for the checker, nothing was read
pub returns-in_default-clause-follows : goal.returns-in_default-clause-follows
returns-in_default-clause-follows g c =
    let start : Start = record { rules = peer_rules; namespace = c.args.cell.now.namespace; area = c.args.area.now; most = g.L.Link.most c.args.link.now; pass = c.args.pass.now; link = g.L.Link.facts c.args.link.now } in
    ends_wanting start (first_now start) (begun start c.number-number.ensures.pass)
