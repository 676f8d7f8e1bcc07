-- The two trees below a slot.
use Rattle.std.proofs.Common.{◌≡◌, ℕ, ◌+◌, ◌<◌, ◌≤◌, Some, arith, refl, subst, max, inl, inr}
use Rattle.std.proofs.Math.Nat.{eq-zero-or-pos}
use Rattle.link_arena.specs.declared.slot.Link.{Link}
use Rattle.link_arena.specs.Tree.{Tree, IsTree, times, height, hit}
use Rattle.link_arena.specs.Tree.Tree.{leaf, node}
use Rattle.link_arena.specs.Slots.{root_height}
use Rattle.link_arena.proofs.Trees.{told_height, hit_same}

-- the two trees below a slot, as trees
pub record IsParted (links : ℕ → Link) (less : ℕ → ℕ → Type 0) (n at : ℕ) (t : Tree) : Type 0 where
  pub before : Tree
  pub after : Tree
  pub is : t ≡ node before at after
  pub before_is : IsTree links less n ((links at).left) before
  pub after_is : IsTree links less n ((links at).right) after
  pub tall : (links at).height ≡ max (height before) (height after) + 1
  pub even : (height before ≤ height after + 1) × (height after ≤ height before + 1)
  pub apart : (s : ℕ) → times s before + hit s at + times s after ≤ 1
  pub here : at < n
  pub low : (s : ℕ) → 0 < times s before → less s at
  pub high : (s : ℕ) → 0 < times s after → less at s

pub parted : (links : ℕ → Link) (less : ℕ → ℕ → Type 0) (n at : ℕ) (t : Tree) → IsTree links less n (Some at) t → IsParted links less n at t
parted links less n at leaf h = let no = h.stands in cc
parted links less n at (node a i b) h =
    let same : i ≡ at = let e = h.stands.0 in cc in
    let P : ℕ → Type 0 = λ k. IsParted links less n k (node a i b) in
    subst P same (record {
      before = a;
      after = b;
      is = refl;
      before_is = record { stands = h.stands.2; balanced = h.balanced.2; within = λ s p. h.within s (omega arith); apart = λ s. omega (arith, h.apart s); rising = h.rising.2; few = omega (arith, h.few) };
      after_is = record { stands = h.stands.3; balanced = h.balanced.3; within = λ s p. h.within s (omega arith); apart = λ s. omega (arith, h.apart s); rising = h.rising.3; few = omega (arith, h.few) };
      tall = h.stands.1;
      even = (h.balanced.0, h.balanced.1);
      apart = h.apart;
      here = h.within i (omega (arith, hit_same i));
      low = h.rising.0;
      high = h.rising.1;
    })

-- either tree is lower than the whole
pub lower : (links : ℕ → Link) (less : ℕ → ℕ → Type 0) (n at : ℕ) (t : Tree) → (p : IsParted links less n at t)
    → (root_height links (links at).left < (links at).height) × (root_height links (links at).right < (links at).height)
lower links less n at t p = (omega (arith, told_height links _ p.before p.before_is.stands, p.tall), omega (arith, told_height links _ p.after p.after_is.stands, p.tall))

-- what never stands in a tree has no count there
pub gone : (n : ℕ) → (0 < n → ⊥) → n ≡ 0
gone n never = elim (eq-zero-or-pos n) [ inl e ↦ e | inr p ↦ absurd (never p) ]
