-- The values of a signer's nodes and its public key, by the steps that compute them.
use Rattle.std.proofs.Common.{◌≡◌, ℕ, zero, suc, ◌+◌, ◌-◌, ◌*◌, ◌/◌, ◌%◌, ◌<◌, List, [], ◌++◌, ◌⊎◌, inl, inr, refl, sym, ap, ◌∙◌, arith, append_assoc}
use Rattle.std.proofs.lemmas.Bool.{cases_eq}
use Rattle.std.proofs.lemmas.List.{append-nil}
use Rattle.lms_core.specs.declared.height.Height.{Height}
use Rattle.lms_core.specs.Bytes.{u32_str}
use Rattle.lms_core.specs.OneTime.{front, message_hash, digits}
use Rattle.lms_core.specs.Tree.{leaf_value, inner_value, parent_value}
use Rattle.lms_core.specs.Accepts.{levels, leaves, type_of}
use Rattle.lms_core.specs.Signer.{values_at, key_of_leaf, node_value, root_value, sibling, path_of, randomizer, public_key, signed_values, signature_of}

pub node_value_leaf : (height : Height) (id seed : List ℕ) (level node count : ℕ) (key value : List ℕ) → level ≡ 0 → count ≡ leaves height → key ≡ key_of_leaf id seed (node - count) → value ≡ leaf_value id node key → value ≡ node_value height id seed level node
unfolding node_value
node_value_leaf height id seed level node count key value hl hn hk hv = hv ∙ rw (hk, hn, hl) refl

pub node_value_inner : (height : Height) (id seed : List ℕ) (level node : ℕ) (left right value : List ℕ) → 0 < level → left ≡ node_value height id seed (level - 1) (2 * node) → right ≡ node_value height id seed (level - 1) (2 * node + 1) → value ≡ inner_value id node left right → value ≡ node_value height id seed level node
unfolding node_value
node_value_inner height id seed zero node left right value h hl hr hv = absurd (omega arith)
node_value_inner height id seed (suc level) node left right value h hl hr hv =
    let e : suc level - 1 ≡ level = omega arith in
    hv ∙ rw (hl, hr, e) refl

pub root_by_steps : (height : Height) (id seed : List ℕ) (count : ℕ) (value : List ℕ) → count ≡ levels height → value ≡ node_value height id seed count 1 → value ≡ root_value height id seed
unfolding root_value
root_by_steps height id seed count value hn hv = hv ∙ rw hn refl

pub public_by_steps : (height : Height) (id seed : List ℕ) (tree once types front root key : List ℕ) → tree ≡ u32_str (type_of height) → once ≡ u32_str 4 → types ≡ tree ++ once → front ≡ types ++ id → root ≡ root_value height id seed → key ≡ front ++ root → key ≡ public_key height id seed
unfolding public_key
public_by_steps height id seed tree once types front root key ht ho hs hf hr hk = hk ∙ rw (hf, hs, ht, ho, hr) refl

-- a number is odd or even
pub parity : (n : ℕ) → (n % 2 ≡ 1) ⊎ (n % 2 ≡ 0)
parity n = elim (cases_eq (n % 2) 1) [ inl h ↦ inl h | inr h ↦ inr (omega arith) ]

parent_value_odd : (id : List ℕ) (node : ℕ) (value other : List ℕ) → node % 2 ≡ 1 → parent_value id node value other ≡ inner_value id (node / 2) other value
unfolding parent_value
parent_value_odd id node value other h = rw h refl

parent_value_even : (id : List ℕ) (node : ℕ) (value other : List ℕ) → node % 2 ≡ 0 → parent_value id node value other ≡ inner_value id (node / 2) value other
unfolding parent_value
parent_value_even id node value other h = rw h refl

pub sibling_odd : (node : ℕ) → node % 2 ≡ 1 → sibling node ≡ node - 1
unfolding sibling
sibling_odd node h = rw h refl

pub sibling_even : (node : ℕ) → node % 2 ≡ 0 → sibling node ≡ node + 1
unfolding sibling
sibling_even node h = rw h refl

node_value_above : (height : Height) (id seed : List ℕ) (level node : ℕ) → node_value height id seed (level + 1) node ≡ inner_value id node (node_value height id seed level (2 * node)) (node_value height id seed level (2 * node + 1))
unfolding node_value
node_value_above height id seed level node =
    let e : level + 1 ≡ suc level = omega arith in
    rw e refl

-- the value of the node above a node, from those of the node and of its sibling
pub node_value_parent : (height : Height) (id seed : List ℕ) (level node : ℕ) → parent_value id node (node_value height id seed level node) (node_value height id seed level (sibling node)) ≡ node_value height id seed (level + 1) (node / 2)
node_value_parent height id seed level node =
    let value : ℕ → List ℕ = λ n. node_value height id seed level n in
    let above : ℕ → ℕ → List ℕ = λ m n. inner_value id (node / 2) (value m) (value n) in
    let up = node_value_above height id seed level (node / 2) in
    elim (parity node) [
      | inl odd ↦
          let a : node - 1 ≡ 2 * (node / 2) = omega arith in
          let b : node ≡ 2 * (node / 2) + 1 = omega arith in
          parent_value_odd id node (value node) (value (sibling node)) odd ∙ ap (λ n. above n node) (sibling_odd node odd ∙ a) ∙ ap (λ n. above (2 * (node / 2)) n) b ∙ sym up
      | inr even ↦
          let a : node + 1 ≡ 2 * (node / 2) + 1 = omega arith in
          let b : node ≡ 2 * (node / 2) = omega arith in
          parent_value_even id node (value node) (value (sibling node)) even ∙ ap (λ n. above node n) (sibling_even node even ∙ a) ∙ ap (λ n. above n (2 * (node / 2) + 1)) b ∙ sym up
    ]

-- a path from a node on, with its first sibling taken
pub path_of_turn : (height : Height) (id seed : List ℕ) (level node n : ℕ) → 0 < n → path_of height id seed level node n ≡ node_value height id seed level (sibling node) ++ path_of height id seed (level + 1) (node / 2) (n - 1)
unfolding path_of
path_of_turn height id seed level node zero h = absurd (omega arith)
path_of_turn height id seed level node (suc n) h =
    let e : suc n - 1 ≡ n = omega arith in
    let f : level + 1 ≡ suc level = omega arith in
    rw (e, f) refl

pub path_of_none : (height : Height) (id seed : List ℕ) (level node n : ℕ) → n ≡ 0 → path_of height id seed level node n ≡ []
unfolding path_of
path_of_none height id seed level node n h = rw h refl

-- a level that is climbed: what the path and what the rest of the way have
pub path_of_taken : (height : Height) (id seed : List ℕ) (level node h : ℕ) (taken more whole other : List ℕ) → level < h → more ≡ taken ++ other → other ≡ node_value height id seed level (sibling node) → taken ++ path_of height id seed level node (h - level) ≡ whole → more ++ path_of height id seed (level + 1) (node / 2) (h - (level + 1)) ≡ whole
path_of_taken height id seed level node h taken more whole other p hm ho hw =
    let rest = path_of height id seed (level + 1) (node / 2) (h - (level + 1)) in
    let e : h - level - 1 ≡ h - (level + 1) = omega arith in
    let t = rw e at (path_of_turn height id seed level node (h - level) (omega arith)) in
    rw (hm, append_assoc taken other rest, ho, ← t) hw

pub path_of_done : (height : Height) (id seed : List ℕ) (level node h : ℕ) (taken whole : List ℕ) → level ≡ h → taken ++ path_of height id seed level node (h - level) ≡ whole → taken ≡ whole
path_of_done height id seed level node h taken whole p hw =
    let n = path_of_none height id seed level node (h - level) (omega arith) in
    sym (append-nil taken) ∙ rw n at hw

-- the root, where a climb has come to the top
pub root_reached : (height : Height) (id seed : List ℕ) (level node : ℕ) (value : List ℕ) → level ≡ levels height → node ≡ 1 → value ≡ node_value height id seed level node → value ≡ root_value height id seed
unfolding root_value
root_reached height id seed level node value hl hn hv = hv ∙ rw (hl, hn) refl

-- the value of a leaf, by its index
pub leaf_by_index : (height : Height) (id seed : List ℕ) (q count : ℕ) (key value : List ℕ) → count ≡ leaves height → key ≡ key_of_leaf id seed q → value ≡ leaf_value id (count + q) key → value ≡ node_value height id seed 0 (leaves height + q)
leaf_by_index height id seed q count key value hc hk hv =
    let e : leaves height + q - leaves height ≡ q = omega arith in
    let k = ap (λ n. key_of_leaf id seed n) e in
    node_value_leaf height id seed 0 (leaves height + q) (leaves height) key value refl refl (hk ∙ sym k) (hv ∙ ap (λ n. leaf_value id (n + q) key) hc)

-- the public key and a signature, by their parts
pub signed_by_steps : (height : Height) (id seed : List ℕ) (q : ℕ) (message public qs once numbers c head values types path whole : List ℕ) → public ≡ public_key height id seed → qs ≡ u32_str q → once ≡ u32_str 4 → numbers ≡ qs ++ once → c ≡ randomizer seed q message → head ≡ numbers ++ c → values ≡ values_at id seed q 0 (digits (message_hash id q c message)) → types ≡ u32_str (type_of height) → path ≡ path_of height id seed 0 (leaves height + q) (levels height) → whole ≡ (((public ++ head) ++ values) ++ types) ++ path → whole ≡ public_key height id seed ++ signature_of height id seed q message
unfolding signature_of signed_values
signed_by_steps height id seed q message public qs once numbers c head values types path whole hp hq ho hn hc hh hv ht hs hw =
    let e : (((public ++ head) ++ values) ++ types) ++ path ≡ public ++ (((head ++ values) ++ types) ++ path) = simp append_assoc in
    hw ∙ e ∙ rw (hp, hh, hn, hq, ho, hv, hc, ht, hs) refl
