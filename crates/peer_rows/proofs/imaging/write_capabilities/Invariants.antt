use Rattle.std.proofs.Common.{◌≡◌, ℕ, ◌++◌, List, map, drop}
use Rattle.std.specs.List.{flat_map}
use Rattle.willow_outside.specs.Facts.{SinkFacts}
use Rattle.peer_image.specs.Image.{bytes_frame}
use Rattle.peer_rows.specs.Writing.{IsWritingOut}
use Rattle.peer_rows.proofs.imaging.write_capabilities.Given as goal

abbrev pub invariant-loop-capability : goal.invariant-loop-capability
invariant-loop-capability g l = record {
  writing : (begun : SinkFacts) (whole behind : List ℕ) → IsWritingOut begun (g.O.Sink.facts l.fn.output) whole l.fn.piece.items (flat_map bytes_frame (map (λ c. c.now) l.told) ++ behind)
      → IsWritingOut begun (g.O.Sink.facts l.output) whole l.piece.items (flat_map bytes_frame (drop l.capability-index (map (λ c. c.now) l.told)) ++ behind);
  no_fault : (g.O.Sink.facts l.output).faults ≡ (g.O.Sink.facts l.fn.output).faults;
}
