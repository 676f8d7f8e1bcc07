use Rattle.std.proofs.Common.{◌≡◌, ◌-◌, ◌^◌, length, ◌≤◌}
use Rattle.ns_cell.specs.Passes.{IsPassOf}
use Rattle.sync_link.specs.Asking.{AsksOnce, IsUnasked}
use Rattle.sync_link.specs.UnderWay.{IsCounted, now_of}
use Rattle.sync_link.proofs.Talked.{Keeps}
use Rattle.sync_link.proofs.run.session.talk.Given as goal

abbrev pub invariant-talking : goal.invariant-talking
invariant-talking g l = record {
  pass : IsPassOf l.cell l.pass;
  namespace : g.C.Checker.judged_in l.checker ≡ g.C.Checker.judged_in l.fn.checker;
  counted : IsCounted l.session;
  gives : g.K.Signer.gives l.signer ≡ g.K.Signer.gives l.fn.signer;
  most : g.L.Link.most l.link ≡ g.L.Link.most l.fn.link;
  unasked : IsUnasked l.fn.session.side.signature l.session.side.signature l.fn.signer l.signer;
  asks : AsksOnce g.K.Signer.asks l.fn.session.side.signature l.fn.signer l.signer;
  room : 1 ≤ length l.room.items;
  keeps : Keeps g.S.Verify.rules l.cell.namespace (g.K.Signer.gives l.fn.signer) (g.L.Link.most l.fn.link)
      (now_of g.S.Verify.rules l.fn.session l.fn.pass (g.L.Link.facts l.fn.link) (g.K.Signer.left l.fn.signer) (g.K.Signer.faults l.fn.signer))
      (now_of g.S.Verify.rules l.session l.pass (g.L.Link.facts l.link) (g.K.Signer.left l.signer) (g.K.Signer.faults l.signer));
}

abbrev pub decreases-talking : goal.decreases-talking
decreases-talking g l = 2 ^ 64 - l.session.count
