use Rattle.std.proofs.Common.{◌≡◌, ◌≤◌, length, vec_capacity}
use Rattle.ns_cell.specs.Passes.{IsLater}
use Rattle.peer_run.proofs.FedLinks.{FedBelow}
use Rattle.peer_run.proofs.FedPlaces.{AsBefore}
use Rattle.peer_run.proofs.feeding.feed_links.Given as goal

abbrev pub invariant-loop-at : goal.invariant-loop-at
invariant-loop-at g l = record {
  later : IsLater l.fn.own l.own;
  own : l.own.own ≡ l.fn.own.own;
  tails : length l.tails.items ≡ l.at;
  room : length l.fn.links ≤ vec_capacity l.tails;
  many : length l.links ≡ length l.fn.links;
  ahead : AsBefore l.fn.links l.at l.links;
  fed : FedBelow g.L.Link.facts l.feeds l.from l.fn.own l.ends l.fn.links l.at l.own l.links l.tails.items;
}
