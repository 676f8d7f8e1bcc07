use Rattle.std.proofs.Common.{◌≡◌, length}
use Rattle.ns_cell.specs.Passes.{IsLater}
use Rattle.peer_run.proofs.FedPlaces.{AsBefore}
use Rattle.peer_run.proofs.MetPasses.{MetBelow}
use Rattle.peer_run.proofs.feeding.meet_all.Given as goal

abbrev pub invariant-loop-at : goal.invariant-loop-at
invariant-loop-at l = record {
  later : IsLater l.fn.own l.own;
  own : l.own.own ≡ l.fn.own.own;
  many : length l.passes ≡ length l.fn.passes;
  ahead : AsBefore l.fn.passes l.at l.passes;
  met : MetBelow l.fn.passes l.own l.at l.passes;
}
