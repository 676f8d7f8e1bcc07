use Rattle.std.proofs.Common.{◌≡◌, ◌++◌, take}
use Rattle.lms_core.specs.KeyChains.{values_of}
use Rattle.lms_core.proofs.key_chains.append_values.Given as goal

abbrev pub invariant-chains : goal.invariant-chains
invariant-chains s = s.out.items ≡ s.initial.out.items ++ values_of (take s.chain-index s.chains)
