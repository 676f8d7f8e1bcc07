-- The tree of RFC 8554's LMS_SHA256_M32: node 1 is the root, nodes 2 n and 2 n + 1 stand below node n,
-- and leaf q of a tree of height h is node 2 ^ h + q.
use Rattle.std.specs.Prelude.{ℕ, zero, suc, ◌/◌, ◌%◌, List, ◌++◌, take, drop, if◌then◌else◌, ◌==◌}
use Rattle.sha2.specs.Sha256.{sha256}
use Rattle.lms_core.specs.OneTime.{front, d_leaf, d_intr}

-- T of a leaf, from its node's number and its one-time public key
unfoldable pub leaf_value : List ℕ → ℕ → List ℕ → List ℕ
leaf_value id node key = sha256 (front id node d_leaf ++ key)

-- T of a node above the leaves, from those of the two below it
unfoldable pub inner_value : List ℕ → ℕ → List ℕ → List ℕ → List ℕ
inner_value id node left right = sha256 ((front id node d_intr ++ left) ++ right)

-- T of the node above a node, from those of the node and of its sibling: an odd node stands at the right
unfoldable pub parent_value : List ℕ → ℕ → List ℕ → List ℕ → List ℕ
parent_value id node value sibling =
    if node % 2 == 1 then inner_value id (node / 2) sibling value else inner_value id (node / 2) value sibling

-- T of the node n levels above a node, where path has the siblings on the way, 32 bytes each
unfoldable pub climb : List ℕ → ℕ → List ℕ → ℕ → List ℕ → List ℕ
climb id node value zero path = value
climb id node value (suc n) path = climb id (node / 2) (parent_value id node value (take 32 path)) n (drop 32 path)
