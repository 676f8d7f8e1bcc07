use Rattle.std.proofs.Common.{◌≡◌, length, take, ◌-◌, ◌≤◌}
use Rattle.willow_outside.specs.Told.{Extends}
use Rattle.row_intake.specs.Links.{ReadsNothing}
use Rattle.row_intake.proofs.sending.send.Given as goal

abbrev pub invariant-loop-at : goal.invariant-loop-at
invariant-loop-at g l = record {
  in_range : l.at ≤ length l.bytes;
  given : Extends (g.L.Link.facts l.fn.link).held (g.L.Link.facts l.link).held (take l.at l.bytes);
  faults : (g.L.Link.facts l.link).write_faults ≡ (g.L.Link.facts l.fn.link).write_faults;
  most : g.L.Link.most l.link ≡ g.L.Link.most l.fn.link;
  rest : ReadsNothing (g.L.Link.facts l.fn.link) (g.L.Link.facts l.link);
}

abbrev pub decreases-loop-at : goal.decreases-loop-at
decreases-loop-at g l = length l.bytes - l.at
