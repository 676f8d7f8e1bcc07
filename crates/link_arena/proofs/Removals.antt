-- A value that is taken out leaves the arena sound, and one pair less in each list.
use Rattle.std.proofs.Common.{◌≡◌, ◌≢◌, ℕ, ◌+◌, ◌-◌, ◌<◌, ◌≤◌, inl, inr, Option, None, Some, arith, refl, ap, sym, ◌∙◌, subst, List, ◌∷◌, length, Ordering}
use Rattle.std.proofs.Math.Nat.{eq-zero-or-pos}
use Rattle.link_arena.specs.declared.twice.Order.{Order}
use Rattle.link_arena.specs.declared.twice.Order.TheVariants.{Key, Rank}
use Rattle.link_arena.specs.declared.slot.Slot.{Slot}
use Rattle.link_arena.specs.Tree.{Tree, slots_of, times, count_of}
use Rattle.link_arena.specs.Ordered.{IsOrdered}
use Rattle.link_arena.specs.Both.{CanRemove, AreRemoved}
use Rattle.link_arena.specs.Vacant.{IsEmptied}
use Rattle.link_arena.specs.Sound.{IsKept, IsSound}
use Rattle.link_arena.specs.Arena.{Arena, AreTwoOrders, Holds, IsOneMore}
use Rattle.link_arena.specs.View.{arena_of, pairs_below}
use Rattle.link_arena.specs.Slots.{content_at, value_at, value_in, link_of, ends_of}
use Rattle.link_arena.proofs.Lists.{count_append, count_tree}
use Rattle.link_arena.proofs.Kept.{ordered_still}
use Rattle.link_arena.proofs.Views.{one_more}
use Rattle.link_arena.proofs.Sounds.{in_tree, key_view, rank_view, holds, orders, size_there}
use Rattle.std.specs.Cmp.{IsTotalOrder}
use Rattle.link_arena.proofs.Inserts.{same_hit, vacant_still}

module _ {T : Type 0} (cmp : Order → T → T → Ordering) (old : List (Slot T)) (key rank vacant : Option ℕ) (held : ℕ) (t u : Tree) (free : List ℕ) (k : IsKept cmp old key rank vacant held t u free) (slot : ℕ) where
  pub can_remove : value_at old slot ≢ None → CanRemove cmp old key rank t u slot
  can_remove some = record { both = k.both; there = in_tree cmp old key rank vacant held t u free k slot some }

  module _ (mid new : List (Slot T)) (left : ℕ) (one_less : held ≡ left + 1) (value : T) (was : value_at old slot ≡ Some value) (key_new rank_new : Option ℕ) (a : AreRemoved cmp mid key_new rank_new t u slot)
      (contents : (s : ℕ) → content_at mid s ≡ content_at old s) (same : length old ≡ length mid) (e : IsEmptied mid new slot vacant) where
    there : 0 < times slot t
    there = in_tree cmp old key rank vacant held t u free k slot (λ none. cc)

    -- a slot that stands in the trees still is not the one that was emptied
    other_slot : (s : ℕ) → 0 < times s a.key_removed.tree → s ≢ slot
    other_slot s h is = let both = same_hit s slot t is in omega (arith, a.key_removed.counts s, k.both.by_key.tree.apart s)

    kept_order : (order : Order) (c : T → T → Ordering) (root : Option ℕ) (tree : Tree) → ((s : ℕ) → 0 < times s tree → 0 < times s a.key_removed.tree) → IsOrdered c order mid root tree → IsOrdered c order new root tree
    kept_order order c root tree inside is = ordered_still c order mid new root tree (omega (arith, e.same))
        (λ s h. ap (link_of order) (e.elsewhere s (other_slot s (inside s h)))) (λ s h. ap (ends_of order) (e.elsewhere s (other_slot s (inside s h))))
        (λ s h. ap (λ z. value_in z.content) (e.elsewhere s (other_slot s (inside s h)))) is

    values : (s : ℕ) → s ≢ slot → value_at new s ≡ value_at old s
    values s other = ap (λ z. value_in z.content) (e.elsewhere s other) ∙ ap value_in (contents s)

    -- the slot is not in the list of vacant slots
    not_free : (s : ℕ) → 0 < count_of s free → s ≢ slot
    not_free s h is = let both = same_hit s slot t is in omega (arith, there, k.once s (k.within s h))

    pub kept_without : IsKept cmp new key_new rank_new (Some slot) left a.key_removed.tree a.rank_removed.tree (slot ∷ free)
    kept_without =
        let equal = e.same in
        record {
          both = record {
            by_key = kept_order Key (cmp Key) key_new a.key_removed.tree (λ s h. h) a.both.by_key;
            by_rank = kept_order Rank (cmp Rank) rank_new a.rank_removed.tree (λ s h. omega (arith, a.both.same s)) a.both.by_rank;
            same = a.both.same;
          };
          filled = λ s h none. k.filled s (omega (arith, a.key_removed.counts s)) (sym (values s (other_slot s h)) ∙ none);
          vacant_are = (refl, (vacant, e.here, vacant_still old new vacant free (λ s h. ap (λ z. z.content) (e.elsewhere s (not_free s h)) ∙ contents s) k.vacant_are));
          once = λ s h. omega (arith, k.once s (omega arith), a.key_removed.counts s);
          within = λ s h. elim (eq-zero-or-pos (count_of s free)) [
            | inl none ↦ omega (arith, k.both.by_key.tree.within s (omega (arith, a.key_removed.counts s)))
            | inr some ↦ omega (arith, k.within s some)
          ];
          key_size = omega (arith, a.key_removed.sized, k.key_size);
          rank_size = omega (arith, a.rank_removed.sized, k.rank_size);
          all = omega (arith, k.all);
          few = omega (arith, k.few);
        }

    still : (s : ℕ) → 0 < times s a.key_removed.tree → value_at old s ≡ value_at new s
    still s h = sym (values s (other_slot s h))

    pub one_less_by_key : IsOneMore (pairs_below Key new key_new) (slot, value) (pairs_below Key old key)
    one_less_by_key =
        let b = a.key_removed in
        one_more (value_at new) (value_at old) (pairs_below Key new key_new) (pairs_below Key old key) (slots_of b.tree) (slots_of t) b.first b.last slot value
        (key_view cmp new key_new rank_new (Some slot) left b.tree a.rank_removed.tree (slot ∷ free) kept_without) (key_view cmp old key rank vacant held t u free k)
        b.after b.before was (λ s h. still s (omega (arith, count_tree s b.tree, ap (count_of s) b.after, count_append s b.first b.last)))

    pub one_less_by_rank : IsOneMore (pairs_below Rank new rank_new) (slot, value) (pairs_below Rank old rank)
    one_less_by_rank =
        let b = a.rank_removed in
        one_more (value_at new) (value_at old) (pairs_below Rank new rank_new) (pairs_below Rank old rank) (slots_of b.tree) (slots_of u) b.first b.last slot value
        (rank_view cmp new key_new rank_new (Some slot) left a.key_removed.tree b.tree (slot ∷ free) kept_without) (rank_view cmp old key rank vacant held t u free k)
        b.after b.before was (λ s h. still s (omega (arith, a.both.same s, count_tree s b.tree, ap (count_of s) b.after, count_append s b.first b.last)))

-- the value of a slot stays where the contents do
pub same_value : {T : Type 0} (old lent mid lent_mid : List (Slot T)) (slot : ℕ) → lent ≡ old → ((i : ℕ) → content_at mid i ≡ content_at lent i) → lent_mid ≡ mid → value_at lent_mid slot ≡ value_at old slot
same_value old lent mid lent_mid slot lends contents lends_mid = ap (λ slots. value_at slots slot) lends_mid ∙ ap value_in (contents slot) ∙ ap (λ slots. value_at slots slot) lends

-- what a value that is taken out leaves
pub record IsRemovedFrom {T : Type 0} (cmp : Order → T → T → Ordering) (old : Arena T) (slots : List (Slot T)) (key rank : Option ℕ) (held slot : ℕ) (value : T) : Type 0 where
  pub sound : IsSound cmp slots key rank (Some slot) held
  pub by_key : IsOneMore (pairs_below Key slots key) (slot, value) old.by_key
  pub by_rank : IsOneMore (pairs_below Rank slots rank) (slot, value) old.by_rank
  pub holds : Holds old slot value
  pub orders : (capacity : ℕ) → AreTwoOrders cmp (arena_of slots key rank held capacity)

module _ {T : Type 0} (cmp : Order → T → T → Ordering) (old lent : List (Slot T)) (key rank vacant : Option ℕ) (held slot : ℕ) (s : IsSound cmp old key rank vacant held) (value : T) (was : value_at old slot ≡ Some value) (lends : lent ≡ old) where
  some : value_at old slot ≢ None
  some none = cc

  pub can_remove_from : CanRemove cmp lent key rank s.0 s.1 slot
  can_remove_from = subst (λ slots. CanRemove cmp slots key rank s.0 s.1 slot) (sym lends) (can_remove cmp old key rank vacant held s.0 s.1 s.2 s.3 slot some)

  pub holds_one : 1 ≤ held
  holds_one = omega (arith, s.3.key_size, size_there s.0 slot (in_tree cmp old key rank vacant held s.0 s.1 s.2 s.3 slot some))

  pub removed_from : (total : (order : Order) → IsTotalOrder (cmp order)) (capacity : ℕ) (seen : Arena T) (view : arena_of old key rank held capacity ≡ seen) (mid lent_mid new whole : List (Slot T)) (key_new rank_new : Option ℕ)
      → ((t u : Tree) → CanRemove cmp lent key rank t u slot → AreRemoved cmp mid key_new rank_new t u slot) → ((i : ℕ) → content_at mid i ≡ content_at lent i) → length lent ≡ length mid → lent_mid ≡ mid
      → IsEmptied lent_mid new slot vacant → whole ≡ new → IsRemovedFrom cmp seen whole key_new rank_new (held - 1) slot value
  removed_from total capacity seen view mid lent_mid new whole key_new rank_new removes contents same lends_mid e is =
      let a = removes s.0 s.1 can_remove_from in
      let stays : (i : ℕ) → content_at mid i ≡ content_at old i = λ i. contents i ∙ ap (λ slots. content_at slots i) lends in
      let sizes : length old ≡ length mid = sym (ap length lends) ∙ same in
      let emptied : IsEmptied mid new slot vacant = subst (λ slots. IsEmptied slots new slot vacant) lends_mid e in
      let one_less : held ≡ held - 1 + 1 = omega (arith, holds_one) in
      let k = kept_without cmp old key rank vacant held s.0 s.1 s.2 s.3 slot mid new (held - 1) one_less value was key_new rank_new a stays sizes emptied in
      subst (λ slots. IsRemovedFrom cmp seen slots key_new rank_new (held - 1) slot value) (sym is) (record {
        sound = (a.key_removed.tree, a.rank_removed.tree, slot ∷ s.2, k);
        by_key = subst (λ v. IsOneMore (pairs_below Key new key_new) (slot, value) v.by_key) view
            (one_less_by_key cmp old key rank vacant held s.0 s.1 s.2 s.3 slot mid new (held - 1) one_less value was key_new rank_new a stays sizes emptied);
        by_rank = subst (λ v. IsOneMore (pairs_below Rank new rank_new) (slot, value) v.by_rank) view
            (one_less_by_rank cmp old key rank vacant held s.0 s.1 s.2 s.3 slot mid new (held - 1) one_less value was key_new rank_new a stays sizes emptied);
        holds = subst (λ v. Holds v slot value) view (holds cmp old key rank vacant held s.0 s.1 s.2 s.3 slot value was);
        orders = orders cmp new key_new rank_new (Some slot) (held - 1) a.key_removed.tree a.rank_removed.tree (slot ∷ s.2) k total;
      })
