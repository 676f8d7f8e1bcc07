use Rattle.std.proofs.Common.{◌≡◌, take}
use Rattle.range_split.specs.Quarters.{greatest}
use Rattle.range_split.proofs.load.greatest.Given as goal

abbrev pub invariant-loop-size : goal.invariant-loop-size
invariant-loop-size l = l.most ≡ greatest (take l.size-index l.sizes)
