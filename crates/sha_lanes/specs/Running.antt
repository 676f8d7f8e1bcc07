-- Chains of a list on their way.
use Rattle.std.specs.Prelude.{◌≡◌, ℕ, ◌-◌, ◌≤◌, ◌<◌, List, [], length, map, slice_index_or}
use Rattle.sha_lanes.specs.declared.chain.Chain.{Chain}
use Rattle.sha_lanes.specs.Chain.{ended}

-- the chain at a place of a list
abbrev pub chain_at : List Chain → ℕ → Chain
chain_at chains i = slice_index_or chains i (record { front = []; at = 0; to = 0; value = [] })

-- the list has a chain at this place, and it is not at its end
pub record IsUnfinished (chains : List Chain) (i : ℕ) : Type 0 where
  pub in_list : i < length chains
  pub before : (chain_at chains i).at < (chain_at chains i).to

-- Each chain of a list is as it was or further on its way to its end, and the one at this place is further.
pub record Advances (old new : List Chain) (i : ℕ) : Type 0 where
  pub long : length new ≡ length old
  pub ends : map ended new ≡ map ended old
  pub stay : (k : ℕ) → (chain_at old k).to ≤ (chain_at old k).at → (chain_at new k).to ≤ (chain_at new k).at
  pub nearer : (chain_at new i).to - (chain_at new i).at < (chain_at old i).to - (chain_at old i).at
