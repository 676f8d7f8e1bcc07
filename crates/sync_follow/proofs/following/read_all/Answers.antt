use Rattle.std.proofs.Common.{refl, ◌∙◌, arith}
use Rattle.std.proofs.lemmas.List.{length-take, length-append, length-drop}
use Rattle.sync_follow.specs.UnderWay.{now_of}
use Rattle.sync_follow.proofs.Courses.{ends_wanting}
use Rattle.sync_follow.proofs.Shared.{Keeps, is_now, keeps_self, keeps_on}
use Rattle.sync_follow.proofs.following.read_all.Goals as goal

pub returns-in-Err-clause-goes_on : goal.returns-in-Err-clause-goes_on
returns-in-Err-clause-goes_on g c start is u = ends_wanting start (now_of c.args.course.now c.args.pass.now (g.L.Link.facts c.args.link.now)) u

pub reading-init : goal.reading-init
reading-init g c = record {
  pass = c.requires.pass;
  namespace = refl;
  counted = c.requires.counted;
  most = refl;
  room = omega (arith, c.in-Ok.ensures.len, c.in-Ok.room.ok.0);
  keeps = keeps_self g.S.Verify.rules c.args.cell.now.namespace c.args.area.now (g.L.Link.most c.args.link.now) (now_of c.args.course.now c.args.pass.now (g.L.Link.facts c.args.link.now));
}

pub hear_piece-requires-clause-due : goal.hear_piece-requires-clause-due
hear_piece-requires-clause-due g c κs within = c.is_due.ensures.due c.reading-test.true

pub returns-clause-over : goal.returns-clause-over
returns-clause-over g c = c.is_due.ensures.over c.reading-test.false

pub reading-preserved : goal.reading-preserved
reading-preserved g c =
    let i = c.reading.invariant in
    record {
      pass = c.in-Ok-hear_piece.ensures.pass;
      namespace = c.in-Ok-hear_piece.ensures.namespace ∙ i.namespace;
      counted = c.in-Ok-hear_piece.ensures.counted;
      most = c.in-Ok-hear_piece.ensures.most ∙ i.most;
      room = simp (length-take, length-append, length-drop) (omega (arith, i.room, c.deref_mut.ensures.len, c.hear_piece.auto.room, c.reading.room.ok.0));
      keeps = keeps_on g.S.Verify.rules c.args.cell.now.namespace c.args.area.now (g.L.Link.most c.args.link.now) (g.L.Link.most c.reading.link)
          (now_of c.args.course.now c.args.pass.now (g.L.Link.facts c.args.link.now))
          (now_of c.reading.course c.reading.pass (g.L.Link.facts c.reading.link))
          (now_of c.hear_piece.new.course c.hear_piece.new.pass (g.L.Link.facts c.hear_piece.new.link))
          i.most i.keeps c.in-Ok-hear_piece.ensures.goes_on;
    }

pub reading-smaller : goal.reading-smaller
reading-smaller g c = omega (arith, c.in-Ok-hear_piece.ensures.grows, c.known_read.ensures)

pub returns-in-Err-hear_piece-clause-goes_on : goal.returns-in-Err-hear_piece-clause-goes_on
unfolding Keeps
returns-in-Err-hear_piece-clause-goes_on g c start is u =
    let i = c.reading.invariant in
    let now = is_now start g.S.Verify.rules c.args.cell.now.namespace c.args.area.now (g.L.Link.most c.args.link.now) (g.L.Link.most c.reading.link) i.most is in
    c.in-Err-hear_piece.ensures.goes_on start now (i.keeps start is u)

pub returns-clause-goes_on : goal.returns-clause-goes_on
unfolding Keeps
returns-clause-goes_on g c start is u = c.reading.invariant.keeps start is u
