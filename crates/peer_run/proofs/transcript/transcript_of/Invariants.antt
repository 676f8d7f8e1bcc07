use Rattle.std.proofs.Common.{◌≡◌, map, take}
use Rattle.peer_run.specs.Transcript.{transcript}
use Rattle.peer_run.proofs.transcript.transcript_of.Given as goal

abbrev pub invariant-loop-i : goal.invariant-loop-i
invariant-loop-i l = l.text.items ≡ transcript (map (λ t. t.items) (take l.i l.turns))
