use Rattle.std.proofs.Common.{◌≡◌, ℕ, List, []}
use Rattle.peer_rows.specs.Shares.{AreShares}
use Rattle.peer_rows.specs.Writing.{IsWritingOut}
use Rattle.peer_rows.proofs.shares.write_shares.Given as goal

abbrev pub invariant-shares : goal.invariant-shares
invariant-shares g l = record {
  writing : (left : ℕ → List ℕ) → AreShares left l.shares → IsWritingOut (g.O.Sink.facts l.fn.output) (g.O.Sink.facts l.output) (left 0) [] (left l.k);
  no_fault : (g.O.Sink.facts l.output).faults ≡ (g.O.Sink.facts l.fn.output).faults;
}
