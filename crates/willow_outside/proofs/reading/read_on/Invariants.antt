use Rattle.std.proofs.Common.{◌≡◌, ◌≤◌, length, ◌-◌, ◌<◌}
use Rattle.std.specs.Io.KnownBytes.{Consumes}
use Rattle.willow_outside.proofs.reading.read_on.Given as goal

abbrev pub invariant-loop-n : goal.invariant-loop-n
invariant-loop-n g l = record {
  taken : Consumes (g.S.Source.facts l.fn.source).left (g.S.Source.facts l.source).left l.bytes.items;
  room : 0 < length l.piece;
  within : length l.bytes.items ≤ l.limit;
  ends : (g.S.Source.facts l.source).ends ≡ (g.S.Source.facts l.fn.source).ends;
  faults : (g.S.Source.facts l.source).faults ≡ (g.S.Source.facts l.fn.source).faults;
}

abbrev pub decreases-loop-n : goal.decreases-loop-n
decreases-loop-n g l = l.limit - length l.bytes.items
