use Rattle.std.proofs.Common.{◌≡◌, ℕ, ◌<◌, [], length, get_or}
use Rattle.lms_core.proofs.ChainLists.{secret_chain}
use Rattle.lms_core.proofs.key_chains.secret_chains.Given as goal

abbrev pub invariant-chains : goal.invariant-chains
invariant-chains s = (length s.chains ≡ 34)
    × ((k : ℕ) → k < s.number → get_or s.chains k (record { front = []; at = 0; to = 0; value = [] }) ≡ secret_chain s.identifier s.seed s.index s.digits k)
