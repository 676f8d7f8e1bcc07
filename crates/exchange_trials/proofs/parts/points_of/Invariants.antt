use Rattle.std.proofs.Common.{◌≡◌}
use Rattle.std.specs.List.{AllByRecursion}
use Rattle.sync_msg.specs.CutPoints.{dimension}
use Rattle.exchange_trials.proofs.parts.points_of.Given as goal

abbrev pub invariant-loop-byte : goal.invariant-loop-byte
invariant-loop-byte l = AllByRecursion (λ at. dimension at ≡ 1) l.points
