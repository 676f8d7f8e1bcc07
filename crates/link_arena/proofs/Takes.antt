-- A slot taken out below a root, from the slot taken out below one side of it.
use Rattle.std.proofs.Common.{◌≡◌, ℕ, ◌+◌, ◌≤◌, ◌≢◌, Option, None, Some, arith, refl, ap, sym, ◌∙◌, subst, inl, inr, List, [], ◌++◌, ◌∷◌, append_assoc}
use Rattle.std.proofs.lemmas.List.{append-nil}
use Rattle.std.proofs.lemmas.Bool.{cases_lt}
use Rattle.std.proofs.Math.Nat.{eq-zero-or-pos}
use Rattle.link_arena.specs.declared.slot.Link.{Link}
use Rattle.link_arena.specs.Tree.{Tree, IsTree, IsStrict, AreReady, IsWoven, CanTake, IsOut, IsLeastOut, Rises, times, height, size, hit, slots_of}
use Rattle.link_arena.specs.Tree.Tree.{leaf, node}
use Rattle.link_arena.proofs.Trees.{hit_same, hit_other, stands_still, same_tree}
use Rattle.link_arena.proofs.Lists.{to_list, count_tree}
use Rattle.link_arena.proofs.Parts.{parted, IsParted}
use Rattle.link_arena.proofs.Puts.{woven_tree}

module _ (less : ℕ → ℕ → Type 0) (f g : ℕ → Link) (n at slot : ℕ) (t : Tree) (root : Option ℕ) (c : IsTree f less n (Some at) t) (p : IsParted f less n at t) where
  -- the two sides of a slot, once one slot is gone
  pub ready_left : (o : IsOut f g less n root p.before slot) → AreReady g n root o.tree at (f at).right p.after
  ready_left o = record {
    before = o.is.stands;
    after = stands_still f g _ p.after (λ s h. o.elsewhere s (omega (arith, p.apart s))) p.after_is.stands;
    balanced_before = o.is.balanced;
    balanced_after = p.after_is.balanced;
    near_before = omega (arith, p.even.0, o.least);
    near_after = omega (arith, p.even.1, o.most);
    apart = λ s. omega (arith, p.apart s, o.counts s);
    within = λ s h. c.within s (omega (arith, ap (times s) p.is, o.counts s));
    few = omega (arith, o.sized, c.few, ap size p.is);
  }

  -- on the right, where the slot between is the top or the one that is gone
  ready_between : (between : ℕ) → (o : IsOut f g less n root p.after slot) → ((s : ℕ) → hit s between ≤ hit s at + hit s slot) → AreReady g n (f at).left p.before between root o.tree
  ready_between between o is_one = record {
    after = o.is.stands;
    before = stands_still f g _ p.before (λ s h. o.elsewhere s (omega (arith, p.apart s))) p.before_is.stands;
    balanced_after = o.is.balanced;
    balanced_before = p.before_is.balanced;
    near_after = omega (arith, p.even.1, o.least);
    near_before = omega (arith, p.even.0, o.most);
    apart = λ s. omega (arith, p.apart s, o.counts s, is_one s);
    within = λ s h. c.within s (omega (arith, ap (times s) p.is, o.counts s, is_one s));
    few = omega (arith, o.sized, c.few, ap size p.is);
  }

  pub ready_right : (o : IsOut f g less n root p.after slot) → AreReady g n (f at).left p.before at root o.tree
  ready_right o = ready_between at o (λ s. omega arith)

  pub ready_top : (o : IsOut f g less n root p.after slot) → AreReady g n (f at).left p.before slot root o.tree
  ready_top o = ready_between slot o (λ s. omega arith)

module _ (less : ℕ → ℕ → Type 0) (strict : IsStrict less) (f g h : ℕ → Link) (n at slot : ℕ) (t : Tree) (root top : Option ℕ) (c : IsTree f less n (Some at) t) (p : IsParted f less n at t) where
  pub out_left : (o : IsOut f g less n root p.before slot) → (w : IsWoven g h top o.tree at p.after) → IsOut f h less n top t slot
  out_left o w =
      let ready = ready_left less f g n at slot t root c p o in
      record {
        tree = w.tree;
        is = woven_tree g h less n top o.tree at p.after strict w
            (λ s k. p.low s (omega (arith, o.counts s)), p.high, o.is.rising, p.after_is.rising) ready.within ready.apart (omega (arith, ready.few));
        first = o.first;
        last = o.last ++ at ∷ slots_of p.after;
        before = ap slots_of p.is ∙ rw o.before (simp append_assoc);
        after = w.same ∙ rw o.after (simp append_assoc);
        counts = λ s. omega (arith, w.counts s, o.counts s, ap (times s) p.is);
        sized = omega (arith, w.sized, o.sized, ap size p.is);
        least = omega (arith, w.most, o.least, ap height p.is);
        most = elim (cases_lt (height o.tree + 1) (height p.after)) [
          | inl l ↦ omega (arith, w.least, o.least, o.most, p.even.0, p.even.1, ap height p.is)
          | inr l ↦ omega (arith, w.even (omega (arith, p.even.0, o.least)) l, o.most, ap height p.is)
        ];
        elsewhere = λ s none. let parts = ap (times s) p.is in w.elsewhere s (omega (arith, o.counts s)) ∙ o.elsewhere s (omega arith);
      }

  pub out_right : (o : IsOut f g less n root p.after slot) → (w : IsWoven g h top p.before at o.tree) → IsOut f h less n top t slot
  out_right o w =
      let ready = ready_right less f g n at slot t root c p o in
      record {
        tree = w.tree;
        is = woven_tree g h less n top p.before at o.tree strict w
            (p.low, λ s k. p.high s (omega (arith, o.counts s)), p.before_is.rising, o.is.rising) ready.within ready.apart (omega (arith, ready.few));
        first = slots_of p.before ++ at ∷ o.first;
        last = o.last;
        before = ap slots_of p.is ∙ rw o.before (simp append_assoc);
        after = w.same ∙ rw o.after (simp append_assoc);
        counts = λ s. omega (arith, w.counts s, o.counts s, ap (times s) p.is);
        sized = omega (arith, w.sized, o.sized, ap size p.is);
        least = omega (arith, w.most, o.least, ap height p.is);
        most = elim (cases_lt (height o.tree + 1) (height p.before)) [
          | inl l ↦ omega (arith, w.least, o.least, o.most, p.even.0, p.even.1, ap height p.is)
          | inr l ↦ omega (arith, w.even l (omega (arith, p.even.1, o.least)), o.most, ap height p.is)
        ];
        elsewhere = λ s none. let parts = ap (times s) p.is in w.elsewhere s (omega (arith, o.counts s)) ∙ o.elsewhere s (omega arith);
      }

  -- the least slot on the right comes in the place of the top
  pub out_top : (o : IsLeastOut f g less n root p.after slot) → (w : IsWoven g h top p.before slot o.out.tree) → IsOut f h less n top t at
  out_top o w =
      let ready = ready_top less f g n at slot t root c p o.out in
      let R : List ℕ → Type 0 = λ xs. Rises less xs in
      let rises : Rises less (slot ∷ slots_of o.out.tree) = subst R o.front (to_list less strict p.after p.after_is.rising) in
      let above : less at slot = p.high slot (omega (arith, o.out.counts slot, hit_same slot)) in
      record {
        tree = w.tree;
        is = woven_tree g h less n top p.before slot o.out.tree strict w
            (λ s k. strict.transitive s at slot (p.low s k) above, λ s k. rises.0 s (omega (arith, count_tree s o.out.tree)), p.before_is.rising, o.out.is.rising)
            ready.within ready.apart (omega (arith, ready.few));
        first = slots_of p.before;
        last = slots_of p.after;
        before = ap slots_of p.is;
        after = w.same ∙ rw o.front refl;
        counts = λ s. omega (arith, w.counts s, o.out.counts s, ap (times s) p.is);
        sized = omega (arith, w.sized, o.out.sized, ap size p.is);
        least = omega (arith, w.most, o.out.least, ap height p.is);
        most = elim (cases_lt (height o.out.tree + 1) (height p.before)) [
          | inl l ↦ omega (arith, w.least, o.out.least, o.out.most, p.even.0, p.even.1, ap height p.is)
          | inr l ↦ omega (arith, w.even l (omega (arith, p.even.1, o.out.least)), o.out.most, ap height p.is)
        ];
        elsewhere = λ s none. let parts = ap (times s) p.is in w.elsewhere s (omega (arith, o.out.counts s)) ∙ o.out.elsewhere s (omega arith);
      }

pub least_left : (less : ℕ → ℕ → Type 0) (strict : IsStrict less) (f g h : ℕ → Link) (n at slot : ℕ) (t : Tree) (root top : Option ℕ) (c : IsTree f less n (Some at) t) (p : IsParted f less n at t)
    → (o : IsLeastOut f g less n root p.before slot) → (w : IsWoven g h top o.out.tree at p.after) → IsLeastOut f h less n top t slot
unfolding out_left
least_left less strict f g h n at slot t root top c p o w = record {
  out = out_left less strict f g h n at slot t root top c p o.out w;
  front = ap slots_of p.is ∙ rw (o.front, w.same) refl;
}

-- a slot with no tree on its left
pub least_here : (less : ℕ → ℕ → Type 0) (f : ℕ → Link) (n at : ℕ) (t : Tree) → (f at).left ≡ None → IsTree f less n (Some at) t → IsLeastOut f f less n (f at).right t at
least_here less f n at t none c =
    let p = parted f less n at t c in
    let empty : p.before ≡ leaf = same_tree f _ None p.before leaf none p.before_is.stands refl in
    let is : t ≡ node leaf at p.after = p.is ∙ ap (λ a. node a at p.after) empty in
    record {
      out = record {
        tree = p.after;
        is = p.after_is;
        first = [];
        last = slots_of p.after;
        before = ap slots_of is;
        after = refl;
        counts = λ s. omega (arith, ap (times s) is);
        sized = omega (arith, ap size is);
        least = omega (arith, ap height is);
        most = omega (arith, ap height is);
        elsewhere = λ s h. refl;
      };
      front = ap slots_of is;
    }

-- a slot with no tree on its right
pub top_alone : (less : ℕ → ℕ → Type 0) (f : ℕ → Link) (n at : ℕ) (t : Tree) → (f at).right ≡ None → IsTree f less n (Some at) t → IsOut f f less n (f at).left t at
top_alone less f n at t none c =
    let p = parted f less n at t c in
    let empty : p.after ≡ leaf = same_tree f _ None p.after leaf none p.after_is.stands refl in
    let is : t ≡ node p.before at leaf = p.is ∙ ap (λ b. node p.before at b) empty in
    record {
      tree = p.before;
      is = p.before_is;
      first = slots_of p.before;
      last = [];
      before = ap slots_of is;
      after = sym (append-nil (slots_of p.before));
      counts = λ s. omega (arith, ap (times s) is);
      sized = omega (arith, ap size is);
      least = omega (arith, ap height is);
      most = omega (arith, ap height is);
      elsewhere = λ s h. refl;
    }

module _ (less : ℕ → ℕ → Type 0) (strict : IsStrict less) (f : ℕ → Link) (n at slot : ℕ) (t : Tree) (c : CanTake f less n (Some at) t slot) (p : IsParted f less n at t) (other : at ≢ slot) where
  -- a slot that is below the top stands on its left
  pub can_left : less slot at → CanTake f less n (f at).left p.before slot
  can_left below = record {
    tree = p.before_is;
    there =
        let there = c.there in
        let not_here : hit slot at ≡ 0 = hit_other slot at (λ e. other (sym e)) in
        elim (eq-zero-or-pos (times slot p.after)) [
          | inl none ↦ omega (arith, ap (times slot) p.is)
          | inr some ↦ absurd (strict.irreflexive at (strict.transitive at slot at (p.high slot some) below))
        ];
  }

  -- and one that is not, on its right
  pub can_right : (less slot at → ⊥) → CanTake f less n (f at).right p.after slot
  can_right never = record {
    tree = p.after_is;
    there =
        let there = c.there in
        let not_here : hit slot at ≡ 0 = hit_other slot at (λ e. other (sym e)) in
        elim (eq-zero-or-pos (times slot p.before)) [
          | inl none ↦ omega (arith, ap (times slot) p.is)
          | inr some ↦ absurd (never (p.low slot some))
        ];
  }

-- nothing stands where there is no root
pub nothing : (less : ℕ → ℕ → Type 0) (f : ℕ → Link) (n slot : ℕ) (root : Option ℕ) (t : Tree) → root ≡ None → CanTake f less n root t slot → ⊥
nothing less f n slot root t none c =
    let empty : t ≡ leaf = same_tree f root None t leaf none c.tree.stands refl in
    let there = c.there in omega (arith, ap (times slot) empty)
