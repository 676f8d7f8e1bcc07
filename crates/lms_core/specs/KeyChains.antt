-- The 34 chains of a one-time key as a list, for those who run them side by side.
use Rattle.std.specs.Prelude.{ℕ, suc, List, [], ◌∷◌, take, drop}
use Rattle.std.specs.List.{flat_map}
use Rattle.sha_lanes.specs.declared.chain.Chain.{Chain}
use Rattle.lms_core.specs.OneTime.{front}
use Rattle.lms_core.specs.Signer.{chain_start}

-- the chains from number i on, one a digit, each from its value at the digit on, which stands in the next 32 bytes of values
unfoldable pub told_chains : List ℕ → ℕ → ℕ → List ℕ → List ℕ → List Chain
told_chains id q i [] values = []
told_chains id q i (digit ∷ more) values =
    record { front = front id q i; at = digit; to = 255; value = take 32 values } ∷ told_chains id q (suc i) more (drop 32 values)

-- the chains of leaf q from number i on, one a digit, each from its start up to the digit
unfoldable pub secret_chains : List ℕ → List ℕ → ℕ → ℕ → List ℕ → List Chain
secret_chains id seed q i [] = []
secret_chains id seed q i (digit ∷ more) =
    record { front = front id q i; at = 0; to = digit; value = chain_start id seed q i } ∷ secret_chains id seed q (suc i) more

-- a chain that is to go on to its last step
abbrev pub lengthened : Chain → Chain
lengthened c = record c { to = 255 }

-- the values of chains, joined
abbrev pub values_of : List Chain → List ℕ
values_of chains = flat_map (λ c. c.value) chains
