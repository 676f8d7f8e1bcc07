use Rattle.std.proofs.Common.{◌++◌, take}
use Rattle.sha2.specs.Hashers.{Holds256}
use Rattle.lms_core.specs.OneTime.{front, d_pblc}
use Rattle.lms_core.specs.KeyChains.{values_of}
use Rattle.lms_core.proofs.key_chains.key_of_ends.Given as goal

abbrev pub invariant-chains : goal.invariant-chains
invariant-chains s = Holds256 s.hasher (front s.identifier s.index d_pblc ++ values_of (take s.chain-index s.chains))
