use Rattle.std.proofs.Common.{◌≡◌, ℕ, ◌++◌, List, length, map}
use Rattle.std.specs.List.{AllByRecursion, flat_map}
use Rattle.willow_entry.specs.Frame.{HasFrame}
use Rattle.willow_outside.specs.Facts.{SinkFacts}
use Rattle.peer_image.specs.Image.{placed_frame}
use Rattle.peer_rows.specs.Writing.{IsWritingOut}
use Rattle.peer_rows.proofs.imaging.write_rows.Given as goal

abbrev pub invariant-rows : goal.invariant-rows
invariant-rows g l = record {
  frames : AllByRecursion HasFrame (map g.R.Row.value l.left);
  writing : (begun : SinkFacts) (whole behind : List ℕ) → IsWritingOut begun (g.O.Sink.facts l.fn.output) whole l.fn.piece.items (flat_map (placed_frame (map (λ c. c.now) l.told)) (map g.R.Row.value l.fn.rows) ++ behind)
      → IsWritingOut begun (g.O.Sink.facts l.output) whole l.piece.items (flat_map (placed_frame (map (λ c. c.now) l.told)) (map g.R.Row.value l.left) ++ behind);
  no_fault : (g.O.Sink.facts l.output).faults ≡ (g.O.Sink.facts l.fn.output).faults;
}

abbrev pub decreases-rows : goal.decreases-rows
decreases-rows g l = length l.left
