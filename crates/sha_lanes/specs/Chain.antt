-- Chains of hashes, as in the one-time signatures of RFC 8554, section 4.
use Rattle.std.specs.Prelude.{ℕ, zero, suc, ◌+◌, ◌-◌, List, [], ◌∷◌, ◌++◌}
use Rattle.sha2.specs.Sha256.{sha256}
use Rattle.sha_lanes.specs.declared.chain.Chain.{Chain}

-- step j of the chain whose hash inputs begin with these bytes
abbrev pub step : List ℕ → ℕ → List ℕ → List ℕ
step front j value = sha256 ((front ++ j ∷ []) ++ value)

-- n steps of a chain, from step j on
unfoldable pub run : List ℕ → ℕ → ℕ → List ℕ → List ℕ
run front j zero value = value
run front j (suc n) value = run front (suc j) n (step front j value)

-- a chain n steps on
abbrev pub advanced : ℕ → Chain → Chain
advanced n c = record c { at = c.at + n; value = run c.front c.at n c.value }

-- a chain at its end; one that is there or behind it stays as it is
abbrev pub ended : Chain → Chain
ended c = advanced (c.to - c.at) c
