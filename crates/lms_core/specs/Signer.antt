-- The signer: its chains begin at hashes of a seed, and a signature's randomizer is a hash of the seed and the
-- message. height, id and seed are the tree's height, its identifier I and the 32 bytes of the seed.
use Rattle.std.specs.Prelude.{ℕ, zero, suc, ◌+◌, ◌-◌, ◌*◌, ◌/◌, ◌%◌, List, [], ◌∷◌, ◌++◌, replicate, if◌then◌else◌, ◌==◌}
use Rattle.sha2.specs.Sha256.{sha256}
use Rattle.lms_core.specs.declared.height.Height.{Height}
use Rattle.lms_core.specs.Bytes.{u32_str}
use Rattle.lms_core.specs.OneTime.{front, step, run, message_hash, digits, one_time_key}
use Rattle.lms_core.specs.Tree.{leaf_value, inner_value}
use Rattle.lms_core.specs.Accepts.{one_time_type, levels, leaves, type_of}

-- the start of chain i of leaf q: a step at 255, which no chain has, over the seed
unfoldable pub chain_start : List ℕ → List ℕ → ℕ → ℕ → List ℕ
chain_start id seed q i = step (front id q i) 255 seed

-- the chains of leaf q from number i on, each at its digit
unfoldable pub values_at : List ℕ → List ℕ → ℕ → ℕ → List ℕ → List ℕ
values_at id seed q i [] = []
values_at id seed q i (digit ∷ more) =
    run (front id q i) 0 digit (chain_start id seed q i) ++ values_at id seed q (suc i) more

-- the digits at which chains end
unfoldable pub last_digits : ℕ → List ℕ
last_digits n = replicate n 255

-- the one-time public key of leaf q
unfoldable pub key_of_leaf : List ℕ → List ℕ → ℕ → List ℕ
key_of_leaf id seed q = one_time_key id q (values_at id seed q 0 (last_digits 34))

-- T of the node that stands this many levels above the leaves
unfoldable pub node_value : Height → List ℕ → List ℕ → ℕ → ℕ → List ℕ
node_value height id seed zero node = leaf_value id node (key_of_leaf id seed (node - leaves height))
node_value height id seed (suc level) node =
    inner_value id node (node_value height id seed level (2 * node)) (node_value height id seed level (2 * node + 1))

-- T[1]
unfoldable pub root_value : Height → List ℕ → List ℕ → List ℕ
root_value height id seed = node_value height id seed (levels height) 1

-- the other node below the node above this one
unfoldable pub sibling : ℕ → ℕ
sibling node = if node % 2 == 1 then node - 1 else node + 1

-- the siblings of a node on this level and of the n - 1 nodes above it, joined
unfoldable pub path_of : Height → List ℕ → List ℕ → ℕ → ℕ → ℕ → List ℕ
path_of height id seed level node zero = []
path_of height id seed level node (suc n) =
    node_value height id seed level (sibling node) ++ path_of height id seed (suc level) (node / 2) n

-- C: the byte 43, the seed, the leaf's number and the message, hashed
unfoldable pub randomizer : List ℕ → ℕ → List ℕ → List ℕ
randomizer seed q message = sha256 (((0x43 ∷ []) ++ (seed ++ u32_str q)) ++ message)

-- the public key
unfoldable pub public_key : Height → List ℕ → List ℕ → List ℕ
public_key height id seed = ((u32_str (type_of height) ++ u32_str one_time_type) ++ id) ++ root_value height id seed

-- the chain values of leaf q's signature of a message
unfoldable pub signed_values : List ℕ → List ℕ → ℕ → List ℕ → List ℕ
signed_values id seed q message = values_at id seed q 0 (digits (message_hash id q (randomizer seed q message) message))

-- leaf q's signature of a message
unfoldable pub signature_of : Height → List ℕ → List ℕ → ℕ → List ℕ → List ℕ
signature_of height id seed q message =
    ((((u32_str q ++ u32_str one_time_type) ++ randomizer seed q message) ++ signed_values id seed q message)
    ++ u32_str (type_of height)) ++ path_of height id seed 0 (leaves height + q) (levels height)
