use Rattle.std.proofs.Common.{◌≡◌, drop}
use Rattle.peer_run.specs.Telling.{first_in_tails}
use Rattle.peer_run.proofs.tails.first_in_tails.Given as goal

-- the first of all is that of those to come
abbrev pub invariant-loop-tail : goal.invariant-loop-tail
invariant-loop-tail l = first_in_tails l.tails ≡ first_in_tails (drop l.tail-index l.tails)
