use Rattle.std.proofs.Common.{◌≡◌, ◌++◌, length, map, take, drop}
use Rattle.lms_core.specs.KeyChains.{lengthened}
use Rattle.lms_core.proofs.key_chains.lengthen.Given as goal

abbrev pub invariant-chains : goal.invariant-chains
invariant-chains s = (length s.chains ≡ 34) × (s.chains ≡ map lengthened (take s.number s.fn.chains) ++ drop s.number s.fn.chains)
