use Rattle.std.proofs.Common.{◌≡◌, ◌++◌, ◌≤◌, length, map}
use Rattle.link_host.specs.Begun.{AreGivenBack}
use Rattle.link_host.proofs.giving.give_back_all.Given as goal

abbrev pub invariant-loop-link : goal.invariant-loop-link
invariant-loop-link g l = record {
  back : AreGivenBack (map g.L.Link.facts l.yielded) (g.D.Door.facts l.fn.door) (g.D.Door.facts l.door);
  all : l.yielded ++ l.link-iterator.rest.items ≡ l.fn.links.items;
  out : length l.link-iterator.rest.items ≤ (g.D.Door.facts l.door).out;
}
