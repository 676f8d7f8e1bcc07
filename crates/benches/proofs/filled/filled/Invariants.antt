use Rattle.benches.proofs.Free.{AreFreeFrom}
use Rattle.benches.proofs.filled.filled.Given as goal

abbrev pub invariant-loop-number : goal.invariant-loop-number
invariant-loop-number l = AreFreeFrom l.number l.index.items
