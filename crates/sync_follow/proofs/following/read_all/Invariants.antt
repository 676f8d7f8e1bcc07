use Rattle.std.proofs.Common.{◌≡◌, ◌-◌, ◌^◌, length, ◌≤◌}
use Rattle.ns_cell.specs.Passes.{IsPassOf}
use Rattle.sync_follow.specs.UnderWay.{IsCounted, now_of}
use Rattle.sync_follow.proofs.Shared.{Keeps}
use Rattle.sync_follow.proofs.following.read_all.Given as goal

abbrev pub invariant-reading : goal.invariant-reading
invariant-reading g l = record {
  pass : IsPassOf l.cell l.pass;
  namespace : g.C.Checker.judged_in l.checker ≡ g.C.Checker.judged_in l.fn.checker;
  counted : IsCounted l.area l.course;
  most : g.L.Link.most l.link ≡ g.L.Link.most l.fn.link;
  room : 1 ≤ length l.room.items;
  keeps : Keeps g.S.Verify.rules l.cell.namespace l.area (g.L.Link.most l.fn.link) (now_of l.fn.course l.fn.pass (g.L.Link.facts l.fn.link)) (now_of l.course l.pass (g.L.Link.facts l.link));
}

abbrev pub decreases-reading : goal.decreases-reading
decreases-reading g l = 2 ^ 64 - l.course.count
