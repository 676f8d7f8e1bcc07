use Rattle.std.proofs.Common.{◌≡◌, length}
use Rattle.willow_path.specs.Successor.{raised}
use Rattle.willow_path.proofs.successor.raised_part.Given as goal

abbrev pub invariant-loop-front : goal.invariant-loop-front
invariant-loop-front l = raised l.front ≡ raised l.part

abbrev pub decreases-loop-front : goal.decreases-loop-front
decreases-loop-front l = length l.front
