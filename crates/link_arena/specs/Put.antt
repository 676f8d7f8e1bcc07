-- A slot put into a tree.
use Rattle.std.specs.Prelude.{◌≡◌, ℕ, ◌+◌, ◌≤◌, List, ◌∷◌, ◌++◌, Option}
use Rattle.link_arena.specs.declared.slot.Link.{Link}
use Rattle.link_arena.specs.Tree.{Tree, IsTree, slots_of, times, hit, size, height}
use Rattle.link_arena.specs.Chain.{first_or, last_or}

-- the new slot stands between a first part and a last part of the old slots
pub record IsPut (old new_links : ℕ → Link) (less : ℕ → ℕ → Type 0) (n : ℕ) (root : Option ℕ) (t : Tree) (new : ℕ) (left right before_new after_new : Option ℕ) : Type 0 where
  pub tree : Tree
  pub is : IsTree new_links less n root tree
  pub first : List ℕ
  pub last : List ℕ
  pub before : slots_of t ≡ first ++ last
  pub after : slots_of tree ≡ first ++ new ∷ last
  pub counts : (s : ℕ) → times s tree ≡ times s t + hit s new
  pub sized : size tree ≡ size t + 1
  pub least : height t ≤ height tree
  pub most : height tree ≤ height t + 1
  pub elsewhere : (s : ℕ) → times s t + hit s new ≡ 0 → new_links s ≡ old s
  pub before_is : before_new ≡ last_or left first
  pub after_is : after_new ≡ first_or right last
