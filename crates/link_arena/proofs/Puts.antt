-- A slot put below a root, from the slot put below one side of it.
use Rattle.std.proofs.Common.{◌≡◌, ℕ, ◌+◌, ◌^◌, ◌<◌, ◌≤◌, Option, None, Some, arith, refl, ap, sym, ◌∙◌, subst, inl, inr, [], ◌++◌, ◌∷◌, append_assoc}
use Rattle.std.proofs.Math.Nat.{eq-zero-or-pos}
use Rattle.std.proofs.lemmas.Bool.{cases_lt}
use Rattle.link_arena.specs.declared.slot.Link.{Link}
use Rattle.link_arena.specs.Tree.{Tree, IsTree, IsStrict, AreReady, IsWoven, CanPut, Stands, IsRising, times, height, size, hit, slots_of}
use Rattle.link_arena.specs.Tree.Tree.{leaf, node}
use Rattle.link_arena.specs.Put.{IsPut}
use Rattle.link_arena.specs.Slots.{IsSetAt, joint}
use Rattle.link_arena.proofs.Trees.{hit_same, hit_other, stands_still}
use Rattle.link_arena.proofs.Lists.{to_list, from_list, is_hit}
use Rattle.link_arena.proofs.Chains.{first_or-append, last_or-append}
use Rattle.link_arena.proofs.Parts.{IsParted}
use Rattle.link_arena.proofs.Turns.{hung, untouched}

-- what was woven is a tree
pub woven_tree : (f g : ℕ → Link) (less : ℕ → ℕ → Type 0) (n : ℕ) (root : Option ℕ) (a : Tree) (at : ℕ) (b : Tree) → IsStrict less → (w : IsWoven f g root a at b)
    → IsRising less (node a at b) → ((s : ℕ) → 0 < times s (node a at b) → s < n) → ((s : ℕ) → times s (node a at b) ≤ 1) → size (node a at b) < 2 ^ 31 → IsTree g less n root w.tree
woven_tree f g less n root a at b strict w rising within apart few = record {
  stands = w.stands;
  balanced = w.balanced;
  within = λ s h. within s (omega (arith, w.counts s));
  apart = λ s. omega (arith, w.counts s, apart s);
  rising = from_list less w.tree (rw w.same (to_list less strict (node a at b) rising));
  few = omega (arith, w.sized);
}

-- the links of a part stay where the new slot was put into the other part
other_part : (f g : ℕ → Link) (t part : Tree) (root : Option ℕ) (new : ℕ) → times new part ≡ 0 → ((s : ℕ) → 0 < times s part → times s t ≡ 0)
    → ((s : ℕ) → times s t + hit s new ≡ 0 → g s ≡ f s) → Stands f root part → Stands g root part
other_part f g t part root new fresh apart elsewhere stands =
    stands_still f g root part (λ s h. elsewhere s
    (let other : hit s new ≡ 0 = hit_other s new (λ e. let same : times s part ≡ times new part = ap (λ k. times k part) e in omega arith) in omega (arith, apart s h)))
    stands

-- the new slot and those of a tree that lacks it stand once each, within n
once_each : (less : ℕ → ℕ → Type 0) (f : ℕ → Link) (n new s : ℕ) (root : Option ℕ) (t : Tree) → CanPut f less n root t new → (times s t + hit s new ≤ 1) × (0 < times s t + hit s new → s < n)
once_each less f n new s root t c =
    elim (eq-zero-or-pos (hit s new)) [
      | inl none ↦ (omega (arith, c.tree.apart s), λ h. c.tree.within s (omega arith))
      | inr some ↦
          let e : s ≡ new = is_hit s new some in
          let same : times s t ≡ times new t = ap (λ k. times k t) e in
          let one : hit s new ≡ hit new new = ap (λ k. hit k new) e in
          (omega (arith, c.fresh, hit_same new), λ h. omega (arith, c.below))
    ]

module _ (less : ℕ → ℕ → Type 0) (f g : ℕ → Link) (n at new : ℕ) (t : Tree) (root x y l r : Option ℕ) (c : CanPut f less n (Some at) t new) (p : IsParted f less n at t) where
  -- the two sides of a slot, once one is put into
  pub ready_left : (q : IsPut f g less n root p.before new x y l r) → AreReady g n root q.tree at (f at).right p.after
  ready_left q =
      let split = ap (times new) p.is in
      record {
        before = q.is.stands;
        after = other_part f g p.before p.after _ new (omega (arith, c.fresh)) (λ s h. omega (arith, p.apart s)) q.elsewhere p.after_is.stands;
        balanced_before = q.is.balanced;
        balanced_after = p.after_is.balanced;
        near_before = omega (arith, p.even.0, q.most);
        near_after = omega (arith, p.even.1, q.least);
        apart = λ s. omega (arith, q.counts s, ap (times s) p.is, (once_each less f n new s (Some at) t c).0);
        within = λ s h. (once_each less f n new s (Some at) t c).1 (omega (arith, q.counts s, ap (times s) p.is));
        few = omega (arith, q.sized, c.room, ap size p.is);
      }

  pub ready_right : (q : IsPut f g less n root p.after new x y l r) → AreReady g n (f at).left p.before at root q.tree
  ready_right q =
      let split = ap (times new) p.is in
      record {
        after = q.is.stands;
        before = other_part f g p.after p.before _ new (omega (arith, c.fresh)) (λ s h. omega (arith, p.apart s)) q.elsewhere p.before_is.stands;
        balanced_after = q.is.balanced;
        balanced_before = p.before_is.balanced;
        near_before = omega (arith, p.even.0, q.least);
        near_after = omega (arith, p.even.1, q.most);
        apart = λ s. omega (arith, q.counts s, ap (times s) p.is, (once_each less f n new s (Some at) t c).0);
        within = λ s h. (once_each less f n new s (Some at) t c).1 (omega (arith, q.counts s, ap (times s) p.is));
        few = omega (arith, q.sized, c.room, ap size p.is);
      }

module _ (less : ℕ → ℕ → Type 0) (f : ℕ → Link) (n at new : ℕ) (t : Tree) (c : CanPut f less n (Some at) t new) (p : IsParted f less n at t) where
  pub can_left : CanPut f less n (f at).left p.before new
  can_left = record {
    tree = p.before_is;
    fresh = omega (arith, c.fresh, ap (times new) p.is);
    below = c.below;
    differs = λ s h. c.differs s (omega (arith, ap (times s) p.is));
    room = omega (arith, c.room, ap size p.is);
  }

  pub can_right : CanPut f less n (f at).right p.after new
  can_right = record {
    tree = p.after_is;
    fresh = omega (arith, c.fresh, ap (times new) p.is);
    below = c.below;
    differs = λ s h. c.differs s (omega (arith, ap (times s) p.is));
    room = omega (arith, c.room, ap size p.is);
  }

  -- a new slot that is not below the slot is above it
  pub above : (less new at → ⊥) → less at new
  above never = elim (c.differs at (omega (arith, ap (times at) p.is, hit_same at))) [ inl e ↦ e | inr e ↦ absurd (never e) ]

module _ (less : ℕ → ℕ → Type 0) (strict : IsStrict less) (f g h : ℕ → Link) (n at new : ℕ) (t : Tree) (root top x y l r : Option ℕ) (c : CanPut f less n (Some at) t new) (p : IsParted f less n at t) where
  -- what is below a slot stays below it with the new one, which is below too
  all_with : (P : ℕ → Type 0) (part : Tree) (s : ℕ) → P new → ((k : ℕ) → 0 < times k part → P k) → 0 < times s part + hit s new → P s
  all_with P part s own others k = elim (eq-zero-or-pos (hit s new)) [
    | inl none ↦ others s (omega arith)
    | inr some ↦ subst P (sym (is_hit s new some)) own
  ]

  pub put_left : less new at → (q : IsPut f g less n root p.before new x (Some at) l r) → (w : IsWoven g h top q.tree at p.after) → IsPut f h less n top t new x y l r
  put_left below q w =
      let ready = ready_left less f g n at new t root x (Some at) l r c p q in
      record {
        tree = w.tree;
        is = woven_tree g h less n top q.tree at p.after strict w
            (λ s k. all_with (λ i. less i at) p.before s below p.low (omega (arith, q.counts s)), p.high, q.is.rising, p.after_is.rising)
            ready.within ready.apart (omega (arith, ready.few));
        first = q.first;
        last = q.last ++ at ∷ slots_of p.after;
        before = ap slots_of p.is ∙ rw q.before (simp append_assoc);
        after = w.same ∙ rw q.after (simp append_assoc);
        counts = λ s. omega (arith, w.counts s, q.counts s, ap (times s) p.is);
        sized = omega (arith, w.sized, q.sized, ap size p.is);
        least = elim (cases_lt (height p.after + 1) (height q.tree)) [
          | inl lt ↦ omega (arith, w.least, p.even.0, ap height p.is)
          | inr ge ↦ omega (arith, w.even ge (omega (arith, p.even.1, q.least)), q.least, ap height p.is)
        ];
        most = omega (arith, w.most, w.even, q.least, q.most, p.even.0, p.even.1, ap height p.is);
        elsewhere = λ s none. w.elsewhere s (omega (arith, q.counts s, ap (times s) p.is)) ∙ q.elsewhere s (omega (arith, ap (times s) p.is));
        before_is = q.before_is;
        after_is = q.after_is ∙ sym (first_or-append y q.last at (slots_of p.after));
      }

  pub put_right : less at new → (q : IsPut f g less n root p.after new (Some at) y l r) → (w : IsWoven g h top p.before at q.tree) → IsPut f h less n top t new x y l r
  put_right above q w =
      let ready = ready_right less f g n at new t root (Some at) y l r c p q in
      record {
        tree = w.tree;
        is = woven_tree g h less n top p.before at q.tree strict w
            (p.low, λ s k. all_with (λ i. less at i) p.after s above p.high (omega (arith, q.counts s)), p.before_is.rising, q.is.rising)
            ready.within ready.apart (omega (arith, ready.few));
        first = slots_of p.before ++ at ∷ q.first;
        last = q.last;
        before = ap slots_of p.is ∙ rw q.before (simp append_assoc);
        after = w.same ∙ rw q.after (simp append_assoc);
        counts = λ s. omega (arith, w.counts s, q.counts s, ap (times s) p.is);
        sized = omega (arith, w.sized, q.sized, ap size p.is);
        least = elim (cases_lt (height p.before + 1) (height q.tree)) [
          | inl lt ↦ omega (arith, w.least, p.even.1, ap height p.is)
          | inr ge ↦ omega (arith, w.even (omega (arith, p.even.0, q.least)) ge, q.least, ap height p.is)
        ];
        most = omega (arith, w.most, w.even, q.least, q.most, p.even.0, p.even.1, ap height p.is);
        elsewhere = λ s none. w.elsewhere s (omega (arith, q.counts s, ap (times s) p.is)) ∙ q.elsewhere s (omega (arith, ap (times s) p.is));
        before_is = q.before_is ∙ sym (last_or-append x (slots_of p.before) at q.first);
        after_is = q.after_is;
      }

-- a slot put where there is no tree
pub put_leaf : (less : ℕ → ℕ → Type 0) (f g : ℕ → Link) (n new : ℕ) (root x y : Option ℕ) (t : Tree) → root ≡ None → CanPut f less n root t new → IsSetAt f g new (joint f None None) → IsPut f g less n (Some new) t new x y x y
put_leaf less f g n new root x y leaf none c put =
    let one : Stands g (Some new) (node leaf new leaf) = hung f g None leaf new None leaf refl refl refl refl (omega arith) put in
    record {
      tree = node leaf new leaf;
      is = record {
        stands = one;
        balanced = (omega arith, omega arith, tt, tt);
        within = λ s h. let e : s ≡ new = is_hit s new (omega arith) in omega (arith, c.below);
        apart = λ s. grind arith;
        rising = (λ s h. let no_slot : 0 < 0 = h in absurd (omega arith), λ s h. let no_slot : 0 < 0 = h in absurd (omega arith), tt, tt);
        few = omega arith;
      };
      first = [];
      last = [];
      before = refl;
      after = refl;
      counts = λ s. omega arith;
      sized = omega arith;
      least = omega arith;
      most = omega arith;
      elsewhere = λ s no_slot. untouched f g new s _ put (omega arith);
      before_is = refl;
      after_is = refl;
    }
put_leaf less f g n new root x y (node a i b) none c put = let e : root ≡ Some i = c.tree.stands.0 in cc
