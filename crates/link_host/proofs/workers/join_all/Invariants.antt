use Rattle.std.proofs.Common.{◌≡◌, ◌+◌, ◌++◌, ◌≤◌, All, length, map, vec_len, vec_capacity}
use Rattle.link_host.specs.Begun.{AreOver}
use Rattle.link_host.specs.Keeping.{Keeps, begun_of}
use Rattle.link_host.proofs.workers.join_all.Given as goal

abbrev pub invariant-loop-worker : goal.invariant-loop-worker
invariant-loop-worker g l = record {
  over : AreOver (g.H.Host.does l.host.value) (map (begun_of g.L.Link.facts) l.yielded) (map g.L.Link.facts l.links.items) l.partings.items;
  all : l.yielded ++ l.worker-iterator.rest.items ≡ l.fn.started.items;
  links : vec_len l.links + length l.worker-iterator.rest.items ≤ vec_capacity l.links;
  partings : vec_len l.partings + length l.worker-iterator.rest.items ≤ vec_capacity l.partings;
  keeps : All (Keeps g.L.Link.facts g.H.Host.does l.host.value) l.worker-iterator.rest.items;
}
