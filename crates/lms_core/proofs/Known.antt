-- The values of a tree's leaves as a list, and the nodes and signers that stand on it.
use Rattle.std.proofs.Common.{◌≡◌, ℕ, ◌+◌, ◌-◌, ◌^◌, ◌<◌, ◌≤◌, List, length, get_or, refl, sym, ap, subst, ◌∙◌, arith}
use Rattle.std.proofs.lemmas.List.FromFn.{length-map-range_with_len, get_or-map-range_with_len}
use Rattle.lms_core.specs.declared.height.Height.{Height}
use Rattle.lms_core.specs.declared.tree.Tree.{Tree}
use Rattle.lms_core.specs.Accepts.{levels, leaves}
use Rattle.lms_core.specs.Key.{Key}
use Rattle.lms_core.specs.KnownTrees.{leaf_values, IsTreeOf}
use Rattle.lms_core.specs.Signer.{node_value}
use Rattle.lms_core.specs.Use.{Use}
use Rattle.lms_core.proofs.Uses.{use_at}

-- a tree has as many leaves' values as leaves
pub length_leaf_values : (height : Height) (id seed : List ℕ) → length (leaf_values height id seed) ≡ leaves height
unfolding leaf_values
length_leaf_values height id seed = length-map-range_with_len (λ q. node_value height id seed 0 (leaves height + q)) 0 (leaves height)

-- the value at each place is that of its leaf
pub leaf_value_at : (height : Height) (id seed : List ℕ) (q : ℕ) (d : List ℕ) → q < leaves height → get_or (leaf_values height id seed) q d ≡ node_value height id seed 0 (leaves height + q)
unfolding leaf_values
leaf_value_at height id seed q d p = get_or-map-range_with_len (λ n. node_value height id seed 0 (leaves height + n)) 0 (leaves height) q q d p (omega arith)

-- the value of a node without levels below it
pub leaf_node : (height : Height) (id seed : List ℕ) (level node count : ℕ) (value : List ℕ) → level ≡ 0 → count ≡ leaves height → 2 ^ (levels height - level) ≤ node → value ≡ node_value height id seed 0 (leaves height + (node - count)) → value ≡ node_value height id seed level node
leaf_node height id seed level node count value hl hc hn hv =
    let top : levels height - level ≡ levels height = omega (arith, hl) in
    let low : leaves height ≤ node = subst (λ n. 2 ^ n ≤ node) top hn in
    let e : leaves height + (node - count) ≡ node = omega (arith, hc, low) in
    hv ∙ ap (λ n. node_value height id seed 0 n) e ∙ ap (λ l. node_value height id seed l node) (sym hl)

-- the signer that is made of a key's tree
pub use_of_tree : (t v : Tree) (k : Key) (n index : ℕ) (u : Use) → IsTreeOf t k → v ≡ t → index ≡ k.next + n → u ≡ record { height = v.height; identifier = v.identifier; seed = v.seed; index = index; left = 1 } → u ≡ use_at n k
use_of_tree t v k n index u is hv hi hu = hu ∙ rw (hv, is.height, is.identifier, is.seed, hi) refl
