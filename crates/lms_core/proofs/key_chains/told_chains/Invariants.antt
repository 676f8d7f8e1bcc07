use Rattle.std.proofs.Common.{◌≡◌, ℕ, ◌<◌, [], length, get_or}
use Rattle.lms_core.proofs.ChainLists.{told_chain}
use Rattle.lms_core.proofs.key_chains.told_chains.Given as goal

abbrev pub invariant-told : goal.invariant-told
invariant-told s = (length s.chains ≡ 34)
    × ((k : ℕ) → k < s.number → get_or s.chains k (record { front = []; at = 0; to = 0; value = [] }) ≡ told_chain s.identifier s.index s.digits s.values k)
