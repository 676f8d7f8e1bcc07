use Rattle.std.proofs.Common.{◌≡◌, List}
use Rattle.cap_codec.specs.Rows.{RawValue}
use Rattle.sub_hub.specs.Seen.{hub_seen}
use Rattle.peer_rows.specs.Reading.{HasRead}
use Rattle.peer_rows.specs.Watching.{HaveHeard, IsOpen}
use Rattle.peer_rows.proofs.watching.hear_input.Given as goal

abbrev pub invariant-pieces : goal.invariant-pieces
invariant-pieces g l = record {
  read : (had : List RawValue) → IsOpen l.fn.intake.log.kept.namespace had (g.I.Source.facts l.fn.input) l.fn.reading l.fn.intake
      → HasRead l.fn.intake.log.kept.namespace had (g.I.Source.facts l.fn.input) (g.I.Source.facts l.input) l.reading l.intake;
  checks : g.C.Checker.judged_in l.checker ≡ l.fn.intake.log.kept.namespace;
  heard : HaveHeard l.fn.intake.log l.intake.log (hub_seen (λ w. (goal.Watcher-dyn g (w.vtable, w.value)).told w.value) l.fn.hub) (hub_seen (λ w. (goal.Watcher-dyn g (w.vtable, w.value)).told w.value) l.hub) l.left;
  no_fault : (g.I.Source.facts l.input).faults ≡ (g.I.Source.facts l.fn.input).faults;
  not_ended : (g.I.Source.facts l.input).ends ≡ (g.I.Source.facts l.fn.input).ends;
}

abbrev pub decreases-pieces : goal.decreases-pieces
decreases-pieces g l = l.reading.left
