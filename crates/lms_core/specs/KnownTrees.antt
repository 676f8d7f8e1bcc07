-- What a signer keeps of its tree: the values of all leaves, and whose tree it is.
use Rattle.std.specs.Prelude.{◌≡◌, ℕ, ◌+◌, List, map}
use Rattle.std.specs.List.{range_with_len}
use Rattle.lms_core.specs.declared.height.Height.{Height}
use Rattle.lms_core.specs.declared.tree.Tree.{Tree}
use Rattle.lms_core.specs.Accepts.{leaves}
use Rattle.lms_core.specs.Signer.{node_value}
use Rattle.lms_core.specs.Key.{Key}

-- T of the leaves, in order
unfoldable pub leaf_values : Height → List ℕ → List ℕ → List (List ℕ)
leaf_values height id seed = map (λ q. node_value height id seed 0 (leaves height + q)) (range_with_len 0 (leaves height))

-- The tree is that of the key.
pub record IsTreeOf (t : Tree) (k : Key) : Type 0 where
  pub height : t.height ≡ k.height
  pub identifier : t.identifier ≡ k.identifier
  pub seed : t.seed ≡ k.seed
