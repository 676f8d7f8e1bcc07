use Rattle.std.proofs.Common.{◌≡◌, length, take, ◌-◌, ◌≤◌}
use Rattle.std.specs.Io.KnownBytes.{Appends}
use Rattle.willow_outside.proofs.writing.write_whole.Given as goal

abbrev pub invariant-loop-at : goal.invariant-loop-at
invariant-loop-at g l = record {
  in_range : l.at ≤ length l.bytes;
  given : Appends (g.S.Sink.facts l.fn.sink).held (g.S.Sink.facts l.sink).held (take l.at l.bytes);
  faults : (g.S.Sink.facts l.sink).faults ≡ (g.S.Sink.facts l.fn.sink).faults;
}

abbrev pub decreases-loop-at : goal.decreases-loop-at
decreases-loop-at g l = length l.bytes - l.at
