use Rattle.std.proofs.Common.{◌≡◌, ◌≤◌, List, ◌++◌, length}
use Rattle.willow_outside.specs.Facts.{SourceFacts}
use Rattle.cap_codec.specs.Rows.{RawValue}
use Rattle.peer_stage.specs.Stages.{IsReadSomewhat}
use Rattle.peer_rows.specs.Coming.{HaveCome}
use Rattle.peer_rows.proofs.gathering.gather_rows.Given as goal

abbrev pub invariant-reads : goal.invariant-reads
invariant-reads g l = record {
  come : (begun : SourceFacts) (rows : List RawValue) → HaveCome begun (g.I.Source.facts l.fn.input) l.fn.reading rows
      → HaveCome begun (g.I.Source.facts l.input) l.reading (rows ++ l.rows.items);
  few : length l.rows.items ≤ l.fn.room;
  somewhat : IsReadSomewhat (g.I.Source.facts l.fn.input) (g.I.Source.facts l.input);
  less : l.reading.left ≤ l.fn.reading.left;
  no_fault : (g.I.Source.facts l.input).faults ≡ (g.I.Source.facts l.fn.input).faults;
  ends : (g.I.Source.facts l.fn.input).ends ≤ (g.I.Source.facts l.input).ends;
}

abbrev pub decreases-reads : goal.decreases-reads
decreases-reads g l = l.reading.left
