-- Trees of slots, balanced by height, and where links stand as one.
use Rattle.std.specs.Prelude.{◌≡◌, ℕ, suc, zero, ◌+◌, ◌^◌, ◌<◌, ◌≤◌, max, List, [], ◌∷◌, ◌++◌, Option, None, Some, if◌then◌else◌, ◌==◌, ◌⊎◌}
use Rattle.link_arena.specs.declared.slot.Link.{Link}

pub data Tree : Type 0 where
  leaf : Tree
  node : Tree → ℕ → Tree → Tree

-- ---- a tree

-- the slots, in order
abbrev pub slots_of : Tree → List ℕ
slots_of leaf = []
slots_of (node a i b) = slots_of a ++ i ∷ slots_of b

abbrev pub size : Tree → ℕ
size leaf = 0
size (node a i b) = size a + 1 + size b

abbrev pub height : Tree → ℕ
height leaf = 0
height (node a i b) = max (height a) (height b) + 1

-- at each node the two heights differ by at most one
abbrev pub IsBalanced : Tree → Type 0
IsBalanced leaf = Unit {0}
IsBalanced (node a i b) = (height a ≤ height b + 1) × (height b ≤ height a + 1) × IsBalanced a × IsBalanced b

-- 1 where the two slots are one
abbrev pub hit : ℕ → ℕ → ℕ
hit s i = if s == i then 1 else 0

-- how often a slot stands in a tree
abbrev pub times : ℕ → Tree → ℕ
times s leaf = 0
times s (node a i b) = times s a + hit s i + times s b

-- how often a slot stands in a list
abbrev pub count_of : ℕ → List ℕ → ℕ
count_of s [] = 0
count_of s (x ∷ xs) = hit s x + count_of s xs

-- ---- an order of the slots

-- what holds of a strict order
pub record IsStrict (less : ℕ → ℕ → Type 0) : Type 0 where
  pub transitive : (a b c : ℕ) → less a b → less b c → less a c
  pub irreflexive : (a : ℕ) → less a a → ⊥

-- each slot is above those on its left, and below those on its right
abbrev pub IsRising : (ℕ → ℕ → Type 0) → Tree → Type 0
IsRising less leaf = Unit {0}
IsRising less (node a i b) = ((s : ℕ) → 0 < times s a → less s i) × ((s : ℕ) → 0 < times s b → less i s) × IsRising less a × IsRising less b

-- each slot is below those behind it
abbrev pub Rises : (ℕ → ℕ → Type 0) → List ℕ → Type 0
Rises less [] = Unit {0}
Rises less (x ∷ xs) = ((s : ℕ) → 0 < count_of s xs → less x s) × Rises less xs

-- ---- links

-- from a root on, the links stand as the tree
abbrev pub Stands : (ℕ → Link) → Option ℕ → Tree → Type 0
Stands links root leaf = root ≡ None
Stands links root (node a i b) = (root ≡ Some i) × ((links i).height ≡ max (height a) (height b) + 1) × Stands links ((links i).left) a × Stands links ((links i).right) b

-- the tree below a root, as deep as n
abbrev pub grown : ℕ → (ℕ → Link) → Option ℕ → Tree
grown zero links root = leaf
grown (suc n) links None = leaf
grown (suc n) links (Some i) = node (grown n links ((links i).left)) i (grown n links ((links i).right))

-- the links stand as this tree, which is balanced and rises, and has each slot once, of n
pub record IsTree (links : ℕ → Link) (less : ℕ → ℕ → Type 0) (n : ℕ) (root : Option ℕ) (t : Tree) : Type 0 where
  pub stands : Stands links root t
  pub balanced : IsBalanced t
  pub within : (s : ℕ) → 0 < times s t → s < n
  pub apart : (s : ℕ) → times s t ≤ 1
  pub rising : IsRising less t
  pub few : size t < 2 ^ 31

-- ---- turns

-- two trees and a slot that can be woven into one
pub record AreReady (links : ℕ → Link) (n : ℕ) (left : Option ℕ) (a : Tree) (at : ℕ) (right : Option ℕ) (b : Tree) : Type 0 where
  pub before : Stands links left a
  pub after : Stands links right b
  pub balanced_before : IsBalanced a
  pub balanced_after : IsBalanced b
  pub near_before : height a ≤ height b + 2
  pub near_after : height b ≤ height a + 2
  pub apart : (s : ℕ) → times s a + hit s at + times s b ≤ 1
  pub within : (s : ℕ) → 0 < times s a + hit s at + times s b → s < n
  pub few : size a + size b + 1 < 2 ^ 31

-- they are one balanced tree now, and no other link changed
pub record IsWoven (old new : ℕ → Link) (root : Option ℕ) (a : Tree) (at : ℕ) (b : Tree) : Type 0 where
  pub tree : Tree
  pub stands : Stands new root tree
  pub balanced : IsBalanced tree
  pub same : slots_of tree ≡ slots_of a ++ at ∷ slots_of b
  pub counts : (s : ℕ) → times s tree ≡ times s a + hit s at + times s b
  pub sized : size tree ≡ size a + size b + 1
  pub least : max (height a) (height b) ≤ height tree
  pub most : height tree ≤ max (height a) (height b) + 1
  pub even : height a ≤ height b + 1 → height b ≤ height a + 1 → height tree ≡ max (height a) (height b) + 1
  pub elsewhere : (s : ℕ) → times s a + hit s at + times s b ≡ 0 → new s ≡ old s

-- ---- a slot is put in, or taken out

-- a slot that the tree lacks, whose place in the order is told, and room for it
pub record CanPut (links : ℕ → Link) (less : ℕ → ℕ → Type 0) (n : ℕ) (root : Option ℕ) (t : Tree) (new : ℕ) : Type 0 where
  pub tree : IsTree links less n root t
  pub fresh : times new t ≡ 0
  pub below : new < n
  pub differs : (s : ℕ) → 0 < times s t → less s new ⊎ less new s
  pub room : size t + 1 < 2 ^ 31

-- a tree with this slot
pub record CanTake (links : ℕ → Link) (less : ℕ → ℕ → Type 0) (n : ℕ) (root : Option ℕ) (t : Tree) (slot : ℕ) : Type 0 where
  pub tree : IsTree links less n root t
  pub there : 0 < times slot t

-- the slot is gone, and the others stand in their order
pub record IsOut (old new : ℕ → Link) (less : ℕ → ℕ → Type 0) (n : ℕ) (root : Option ℕ) (t : Tree) (slot : ℕ) : Type 0 where
  pub tree : Tree
  pub is : IsTree new less n root tree
  pub first : List ℕ
  pub last : List ℕ
  pub before : slots_of t ≡ first ++ slot ∷ last
  pub after : slots_of tree ≡ first ++ last
  pub counts : (s : ℕ) → times s t ≡ times s tree + hit s slot
  pub sized : size t ≡ size tree + 1
  pub least : height tree ≤ height t
  pub most : height t ≤ height tree + 1
  pub elsewhere : (s : ℕ) → times s t ≡ 0 → new s ≡ old s

-- and it was the least
pub record IsLeastOut (old new : ℕ → Link) (less : ℕ → ℕ → Type 0) (n : ℕ) (root : Option ℕ) (t : Tree) (slot : ℕ) : Type 0 where
  pub out : IsOut old new less n root t slot
  pub front : slots_of t ≡ slot ∷ slots_of out.tree
