-- What a walk down a tree keeps.
use Rattle.std.proofs.Common.{◌≡◌, ℕ, ◌+◌, ◌-◌, ◌*◌, ◌^◌, ◌<◌, ◌≤◌, Option, None, Some, arith, refl, ap, sym, ◌∙◌, subst, Ordering, Less, Equal, Greater}
use Rattle.std.specs.Cmp.{IsTotalOrder}
use Rattle.std.specs.Ordering.{ordering_reverse}
use Rattle.std.proofs.Math.Nat.{pow-le-pow_right}
use Rattle.link_arena.specs.declared.slot.Link.{Link}
use Rattle.link_arena.specs.Tree.{Tree, IsTree, IsStrict, IsBalanced, Stands, slots_of, times, height, size, hit}
use Rattle.link_arena.specs.Chain.{first_or}
use Rattle.link_arena.specs.Tree.Tree.{leaf}
use Rattle.link_arena.specs.Slots.{root_height, slot_cmp, IsTied}
use Rattle.link_arena.proofs.Trees.{hit_same, hit_other, same_tree, told_height}
use Rattle.link_arena.proofs.Chains.{first_or-append}
use Rattle.link_arena.proofs.Turns.{node_at}
use Rattle.link_arena.proofs.Parts.{parted, gone}
use Rattle.link_arena.proofs.Bound.{high}

-- below the slot at, a part of the whole tree has each slot that ties, and what is left of the whole's height
pub record IsOnWay (links : ℕ → Link) (less : ℕ → ℕ → Type 0) (n : ℕ) (ties : ℕ → Type 0) (root at : Option ℕ) (begun now : ℕ) : Type 0 where
  pub whole : Tree
  pub part : Tree
  pub whole_is : IsTree links less n root whole
  pub part_is : IsTree links less n at part
  pub left : now + height part ≤ begun + height whole
  pub more : begun ≤ now
  pub inside : (s : ℕ) → 0 < times s part → 0 < times s whole
  pub holds : (s : ℕ) → 0 < times s whole → ties s → 0 < times s part

pub at_root : (links : ℕ → Link) (less : ℕ → ℕ → Type 0) (n : ℕ) (ties : ℕ → Type 0) (root : Option ℕ) (begun : ℕ) (t : Tree) → IsTree links less n root t → IsOnWay links less n ties root root begun begun
at_root links less n ties root begun t is = record { whole = t; part = t; whole_is = is; part_is = is; left = omega arith; more = omega arith; inside = λ s h. h; holds = λ s h e. h }

few_steps : (t : Tree) (begun now : ℕ) → IsBalanced t → now ≤ begun + height t → 2 ^ (now - begun) ≤ (size t + 2) * (size t + 2)
few_steps t begun now balanced le =
    let most : 2 ^ (now - begun) ≤ 2 ^ height t = pow-le-pow_right (omega arith) (omega arith) in
    omega (arith, high t balanced)

module _ (links : ℕ → Link) (less : ℕ → ℕ → Type 0) (strict : IsStrict less) (n : ℕ) (ties : ℕ → Type 0) (root : Option ℕ) (at begun now : ℕ) (w : IsOnWay links less n ties root (Some at) begun now) where
  -- where each slot that ties is below the one at hand, the walk goes on on its left
  pub down_left : ((s : ℕ) → 0 < times s w.whole → ties s → less s at) → IsOnWay links less n ties root ((links at).left) begun (now + 1)
  down_left below =
      let p = parted links less n at w.part w.part_is in
      record {
        whole = w.whole;
        part = p.before;
        whole_is = w.whole_is;
        part_is = p.before_is;
        left = omega (arith, w.left, ap height p.is);
        more = omega (arith, w.more);
        inside = λ s h. w.inside s (omega (arith, ap (times s) p.is));
        holds = λ s h e.
            let there : 0 < times s w.part = w.holds s h e in
            let under : less s at = below s h e in
            let other : hit s at ≡ 0 = hit_other s at (λ k. strict.irreflexive at (subst (λ i. less i at) k under)) in
            let after : times s p.after ≡ 0 = gone (times s p.after) (λ m. strict.irreflexive at (strict.transitive at s at (p.high s m) under)) in
            omega (arith, ap (times s) p.is);
      }

  -- and where each is above it, on its right
  pub down_right : ((s : ℕ) → 0 < times s w.whole → ties s → less at s) → IsOnWay links less n ties root ((links at).right) begun (now + 1)
  down_right above =
      let p = parted links less n at w.part w.part_is in
      record {
        whole = w.whole;
        part = p.after;
        whole_is = w.whole_is;
        part_is = p.after_is;
        left = omega (arith, w.left, ap height p.is);
        more = omega (arith, w.more);
        inside = λ s h. w.inside s (omega (arith, ap (times s) p.is));
        holds = λ s h e.
            let there : 0 < times s w.part = w.holds s h e in
            let over : less at s = above s h e in
            let other : hit s at ≡ 0 = hit_other s at (λ k. strict.irreflexive at (subst (λ i. less at i) k over)) in
            let before : times s p.before ≡ 0 = gone (times s p.before) (λ m. strict.irreflexive at (strict.transitive at s at over (p.low s m))) in
            omega (arith, ap (times s) p.is);
      }

  pub found : (t : Tree) → IsTree links less n root t → 0 < times at t
  found t h =
      let p = parted links less n at w.part w.part_is in
      let same : w.whole ≡ t = same_tree links root root w.whole t refl w.whole_is.stands h.stands in
      omega (arith, w.inside at (omega (arith, ap (times at) p.is, hit_same at)), ap (times at) same)

  -- one more step keeps the bound
  pub bound : (t : Tree) → IsTree links less n root t → 2 ^ (now + 1 - begun) ≤ (size t + 2) * (size t + 2)
  bound t h =
      let p = parted links less n at w.part w.part_is in
      let same : w.whole ≡ t = same_tree links root root w.whole t refl w.whole_is.stands h.stands in
      few_steps t begun (now + 1) h.balanced (omega (arith, ap height same, ap height p.is, w.left))

  pub there : 0 < times at w.whole
  there = let p = parted links less n at w.part w.part_is in w.inside at (omega (arith, ap (times at) p.is, hit_same at))

module _ (links : ℕ → Link) (less : ℕ → ℕ → Type 0) (n : ℕ) (ties : ℕ → Type 0) (root at : Option ℕ) (begun now : ℕ) (none : at ≡ None) (w : IsOnWay links less n ties root at begun now) (t : Tree) (h : IsTree links less n root t) where
  -- where no tree is left, no slot ties
  pub nowhere : (s : ℕ) → 0 < times s t → ties s → ⊥
  nowhere s p e =
      let same : w.whole ≡ t = same_tree links root root w.whole t refl w.whole_is.stands h.stands in
      let empty : w.part ≡ leaf = same_tree links at None w.part leaf none w.part_is.stands refl in
      let some : 0 < times s w.part = w.holds s (omega (arith, ap (times s) same)) e in
      let zero_times : times s w.part ≡ 0 = ap (times s) empty in
      omega arith

  pub bound_at_end : 2 ^ (now - begun) ≤ (size t + 2) * (size t + 2)
  bound_at_end =
      let same : w.whole ≡ t = same_tree links root root w.whole t refl w.whole_is.stands h.stands in
      few_steps t begun now h.balanced (omega (arith, w.left, ap height same))

module _ {T : Type 0} (cmp : T → T → Ordering) (total : IsTotalOrder cmp) (probe : T) where
  -- a value that ties with the probe is below each that the probe is below
  pub tied_below : (a b : Option T) (v : T) → Some v ≡ b → IsTied cmp probe a → cmp probe v ≡ Less → slot_cmp cmp a b ≡ Less
  tied_below None b v is tied below = absurd tied
  tied_below (Some a) b v is tied below = subst (λ o. slot_cmp cmp (Some a) o ≡ Less) is (sym (total.congr probe a v tied) ∙ below)

  -- and above each that the probe is above
  pub tied_above : (a b : Option T) (v : T) → Some v ≡ b → IsTied cmp probe a → cmp probe v ≡ Greater → slot_cmp cmp b a ≡ Less
  tied_above None b v is tied above = absurd tied
  tied_above (Some a) b v is tied above = subst (λ o. slot_cmp cmp o (Some a) ≡ Less) is (total.antisymm v a ∙ ap ordering_reverse (sym (total.congr probe a v tied) ∙ above))

  pub tied_at : (b : Option T) (v : T) → Some v ≡ b → cmp probe v ≡ Equal → IsTied cmp probe b
  tied_at b v is tied = subst (λ o. IsTied cmp probe o) is tied

-- the first slot of the whole tree is the first below the slot at, or where there is none, the last that was passed
pub record LeadsOn (links : ℕ → Link) (root at passed : Option ℕ) : Type 0 where
  pub whole : Tree
  pub part : Tree
  pub whole_stands : Stands links root whole
  pub part_stands : Stands links at part
  pub first : first_or passed (slots_of part) ≡ first_or None (slots_of whole)

module _ (links : ℕ → Link) (root : Option ℕ) where
  pub leads_from : (t : Tree) → Stands links root t → LeadsOn links root root None
  leads_from t s = record { whole = t; part = t; whole_stands = s; part_stands = s; first = refl }

  module _ (at : Option ℕ) (slot : ℕ) (passed : Option ℕ) (is : at ≡ Some slot) (w : LeadsOn links root at passed) where
    pub leads_on : LeadsOn links root ((links slot).left) (Some slot)
    leads_on =
        let top = node_at links at w.part slot is w.part_stands in
        let stands = subst (Stands links at) top.is w.part_stands in
        record {
          whole = w.whole;
          part = top.before;
          whole_stands = w.whole_stands;
          part_stands = stands.2;
          first =
              sym (first_or-append passed (slots_of top.before) slot (slots_of top.after))
              ∙ sym (ap (λ t. first_or passed (slots_of t)) top.is)
              ∙ w.first;
        }

    pub leads_down : root_height links ((links slot).left) < root_height links at
    leads_down =
        let top = node_at links at w.part slot is w.part_stands in
        let stands = subst (Stands links at) top.is w.part_stands in
        omega (arith, told_height links at w.part w.part_stands, ap height top.is, told_height links ((links slot).left) top.before stands.2)

  pub leads_to : (at passed : Option ℕ) → at ≡ None → LeadsOn links root at passed → (t : Tree) → Stands links root t → passed ≡ first_or None (slots_of t)
  leads_to at passed none w t s =
      let same : w.whole ≡ t = same_tree links root root w.whole t refl w.whole_stands s in
      let empty : w.part ≡ leaf = same_tree links at None w.part leaf none w.part_stands refl in
      sym (ap (λ part. first_or passed (slots_of part)) empty) ∙ w.first ∙ ap (λ whole. first_or None (slots_of whole)) same
