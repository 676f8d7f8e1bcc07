-- What stays of the slots where only the links, or only the ends, of one order are written.
use Rattle.std.proofs.Common.{◌≡◌, ℕ, ◌+◌, ◌<◌, ◌≤◌, Option, None, arith, ap, sym, ◌∙◌, subst, Ordering, List, ◌++◌, ◌∷◌, length}
use Rattle.link_arena.specs.declared.twice.Order.{Order}
use Rattle.link_arena.specs.declared.twice.Order.TheVariants.{Key, Rank}
use Rattle.link_arena.specs.declared.slot.Link.{Link}
use Rattle.link_arena.specs.declared.slot.Slot.{Slot}
use Rattle.link_arena.specs.Tree.{Tree, IsTree, IsOut, IsRising, times, hit, count_of, slots_of}
use Rattle.link_arena.specs.Tree.Tree.{leaf, node}
use Rattle.link_arena.specs.Put.{IsPut}
use Rattle.link_arena.specs.Chain.{IsChained, CanLink}
use Rattle.link_arena.specs.Ordered.{IsOrdered, IsAdded, IsRemoved}
use Rattle.link_arena.specs.Slots.{side, content_at, value_at, value_in, slot_at, slot_cmp, Precedes, afters, befores, rest, loose, unlinked, unended, ends_of, link_of, other}
use Rattle.link_arena.proofs.Trees.{hit_same, stands_still}
use Rattle.link_arena.proofs.Chains.{next_of, previous_of, nexts_still, previous_still}
use Rattle.link_arena.proofs.Lists.{count_append, count_tree}

rising_still : (less more : ℕ → ℕ → Type 0) (t : Tree) → ((s u : ℕ) → 0 < times s t → 0 < times u t → less s u → more s u) → IsRising less t → IsRising more t
rising_still less more leaf kept r = tt
rising_still less more (node a i b) kept r = (
  λ s h. kept s i (omega arith) (omega (arith, hit_same i)) (r.0 s h),
  λ s h. kept i s (omega (arith, hit_same i)) (omega arith) (r.1 s h),
  rising_still less more a (λ s u h k. kept s u (omega arith) (omega arith)) r.2,
  rising_still less more b (λ s u h k. kept s u (omega arith) (omega arith)) r.3,
)

-- a tree stays where the links of its slots and their order do
tree_still : (f g : ℕ → Link) (less more : ℕ → ℕ → Type 0) (n m : ℕ) (r : Option ℕ) (t : Tree) → ((s : ℕ) → 0 < times s t → g s ≡ f s)
    → ((s u : ℕ) → 0 < times s t → 0 < times u t → less s u → more s u) → n ≤ m → IsTree f less n r t → IsTree g more m r t
tree_still f g less more n m r t links kept le is = record {
  stands = stands_still f g r t links is.stands;
  balanced = is.balanced;
  within = λ s h. omega (arith, is.within s h);
  apart = is.apart;
  rising = rising_still less more t kept is.rising;
  few = is.few;
}

chain_still : (a b c d : ℕ → Option ℕ) (xs : List ℕ) → ((s : ℕ) → 0 < count_of s xs → b s ≡ a s) → ((s : ℕ) → 0 < count_of s xs → d s ≡ c s) → IsChained a c xs → IsChained b d xs
chain_still a b c d xs ab cd h = record { nexts = nexts_still a b xs None ab h.nexts; previous = previous_still c d None xs cd h.previous }

module _ {T : Type 0} (cmp : T → T → Ordering) where
  pub precedes_still : (one two : List (Slot T)) (s u : ℕ) → value_at two s ≡ value_at one s → value_at two u ≡ value_at one u → Precedes cmp one s u → Precedes cmp two s u
  precedes_still one two s u es eu p = ap (λ v. slot_cmp cmp v (value_at two u)) es ∙ ap (slot_cmp cmp (value_at one s)) eu ∙ p

  -- an order stays where the links, ends and values of its slots do
  pub ordered_still : (o : Order) (one two : List (Slot T)) (q : Option ℕ) (t : Tree) → length one ≤ length two
      → ((s : ℕ) → 0 < times s t → side o two s ≡ side o one s) → ((s : ℕ) → 0 < times s t → ends_of o (slot_at two s) ≡ ends_of o (slot_at one s)) → ((s : ℕ) → 0 < times s t → value_at two s ≡ value_at one s)
      → IsOrdered cmp o one q t → IsOrdered cmp o two q t
  ordered_still o one two q t le links ends values h = record {
    tree = tree_still (side o one) (side o two) (Precedes cmp one) (Precedes cmp two) (length one) (length two) q t links (λ s u hs hu. precedes_still one two s u (values s hs) (values u hu)) le h.tree;
    chained = chain_still (afters o one) (afters o two) (befores o one) (befores o two) (slots_of t)
        (λ s k. ap (λ e. e.after) (ends s (omega (arith, count_tree s t)))) (λ s k. ap (λ e. e.before) (ends s (omega (arith, count_tree s t)))) h.chained;
  }

module _ {T : Type 0} where
  ends_unlinked : (o : Order) (x y : Slot T) → unlinked o x ≡ unlinked o y → ends_of o x ≡ ends_of o y
  ends_unlinked Key x y e = ap (λ z. z.key_ends) e
  ends_unlinked Rank x y e = ap (λ z. z.rank_ends) e

  link_unended : (o : Order) (x y : Slot T) → unended o x ≡ unended o y → link_of o x ≡ link_of o y
  link_unended Key x y e = ap (λ z. z.key) e
  link_unended Rank x y e = ap (λ z. z.rank) e

  content_unlinked : (o : Order) (x y : Slot T) → unlinked o x ≡ unlinked o y → x.content ≡ y.content
  content_unlinked Key x y e = ap (λ z. z.content) e
  content_unlinked Rank x y e = ap (λ z. z.content) e

  content_unended : (o : Order) (x y : Slot T) → unended o x ≡ unended o y → x.content ≡ y.content
  content_unended Key x y e = ap (λ z. z.content) e
  content_unended Rank x y e = ap (λ z. z.content) e

  -- what the other order has of a slot
  record IsAlike (o : Order) (x y : Slot T) : Type 0 where
    pub link : link_of o x ≡ link_of o y
    pub ends : ends_of o x ≡ ends_of o y

  other_unlinked : (o : Order) (x y : Slot T) → unlinked o x ≡ unlinked o y → IsAlike (other o) x y
  other_unlinked Key x y e = record { link = ap (λ z. z.rank) e; ends = ap (λ z. z.rank_ends) e }
  other_unlinked Rank x y e = record { link = ap (λ z. z.key) e; ends = ap (λ z. z.key_ends) e }

  other_unended : (o : Order) (x y : Slot T) → unended o x ≡ unended o y → IsAlike (other o) x y
  other_unended Key x y e = record { link = ap (λ z. z.rank) e; ends = ap (λ z. z.rank_ends) e }
  other_unended Rank x y e = record { link = ap (λ z. z.key) e; ends = ap (λ z. z.key_ends) e }

module _ {T : Type 0} (o : Order) (one two three : List (Slot T)) (links : (s : ℕ) → rest o two s ≡ rest o one s) (ends : (s : ℕ) → loose o three s ≡ loose o two s) where
  pub contents_stay : (s : ℕ) → content_at three s ≡ content_at one s
  contents_stay s = content_unended o (slot_at three s) (slot_at two s) (ends s) ∙ content_unlinked o (slot_at two s) (slot_at one s) (links s)

  -- the other order stays
  pub other_stays : (cmp : T → T → Ordering) → length one ≡ length three → (q : Option ℕ) (t : Tree) → IsOrdered cmp (other o) one q t → IsOrdered cmp (other o) three q t
  other_stays cmp n q t h = ordered_still cmp (other o) one three q t (omega arith)
      (λ s k. (other_unended o (slot_at three s) (slot_at two s) (ends s)).link ∙ (other_unlinked o (slot_at two s) (slot_at one s) (links s)).link)
      (λ s k. (other_unended o (slot_at three s) (slot_at two s) (ends s)).ends ∙ (other_unlinked o (slot_at two s) (slot_at one s) (links s)).ends)
      (λ s k. ap value_in (contents_stay s)) h

  module _ (cmp : T → T → Ordering) (root q : Option ℕ) (t : Tree) (slot : ℕ) (before after : Option ℕ) (n : length one ≡ length two) (m : length two ≡ length three) (h : IsOrdered cmp o one root t) where
    -- the tree stays where the ends are written
    linked_tree : (u : Tree) → IsTree (side o two) (Precedes cmp one) (length one) q u → IsTree (side o three) (Precedes cmp three) (length three) q u
    linked_tree u is = tree_still (side o two) (side o three) (Precedes cmp one) (Precedes cmp three) (length one) (length three) q u
        (λ s k. link_unended o (slot_at three s) (slot_at two s) (ends s))
        (λ s v hs hv. precedes_still cmp one three s v (ap value_in (contents_stay s)) (ap value_in (contents_stay v))) (omega arith) is

    -- the list stays where the links are written
    kept_list : (xs : List ℕ) → IsChained (afters o one) (befores o one) xs → IsChained (afters o two) (befores o two) xs
    kept_list xs c = chain_still (afters o one) (afters o two) (befores o one) (befores o two) xs
        (λ s k. ap (λ e. e.after) (ends_unlinked o (slot_at two s) (slot_at one s) (links s))) (λ s k. ap (λ e. e.before) (ends_unlinked o (slot_at two s) (slot_at one s) (links s))) c

    pub added : (p : IsPut (side o one) (side o two) (Precedes cmp one) (length one) q t slot None None before after)
        → ((first last : List ℕ) → CanLink (length two) first slot last before after → IsChained (afters o two) (befores o two) (first ++ last) → IsChained (afters o three) (befores o three) (first ++ slot ∷ last))
        → IsAdded cmp o three q t slot
    added p linked =
        let counts : (s : ℕ) → count_of s p.first + hit s slot + count_of s p.last ≡ times s p.tree =
        λ s. omega (arith, count_tree s p.tree, ap (count_of s) p.after, count_append s p.first (slot ∷ p.last)) in
        let can : CanLink (length two) p.first slot p.last before after = record {
          before_is = p.before_is;
          after_is = p.after_is;
          apart = λ s. omega (arith, counts s, p.is.apart s);
          within = λ s k. let low = p.is.within s (omega (arith, counts s)) in omega arith;
        } in
        let C : List ℕ → Type 0 = λ xs. IsChained (afters o one) (befores o one) xs in
        let D : List ℕ → Type 0 = λ xs. IsChained (afters o three) (befores o three) xs in
        record {
          tree = p.tree;
          ordered = record { tree = linked_tree p.tree p.is; chained = subst D (sym p.after) (linked p.first p.last can (kept_list (p.first ++ p.last) (subst C p.before h.chained))) };
          first = p.first;
          last = p.last;
          before = p.before;
          after = p.after;
          counts = p.counts;
          sized = p.sized;
        }

    pub removed : (p : IsOut (side o one) (side o two) (Precedes cmp one) (length one) q t slot) → before ≡ befores o two slot → after ≡ afters o two slot
        → ((first last : List ℕ) → CanLink (length two) first slot last before after → IsChained (afters o two) (befores o two) (first ++ slot ∷ last) → IsChained (afters o three) (befores o three) (first ++ last))
        → IsRemoved cmp o three q t slot
    removed p before_is after_is unlinked_now =
        let counts : (s : ℕ) → count_of s p.first + hit s slot + count_of s p.last ≡ times s t =
        λ s. omega (arith, count_tree s t, ap (count_of s) p.before, count_append s p.first (slot ∷ p.last)) in
        let C : List ℕ → Type 0 = λ xs. IsChained (afters o one) (befores o one) xs in
        let D : List ℕ → Type 0 = λ xs. IsChained (afters o three) (befores o three) xs in
        let kept = kept_list (p.first ++ slot ∷ p.last) (subst C p.before h.chained) in
        let can : CanLink (length two) p.first slot p.last before after = record {
          before_is = before_is ∙ previous_of (befores o two) None p.first slot p.last kept.previous;
          after_is = after_is ∙ next_of (afters o two) p.first slot p.last None kept.nexts;
          apart = λ s. omega (arith, counts s, h.tree.apart s);
          within = λ s k. let low = h.tree.within s (omega (arith, counts s)) in omega arith;
        } in
        record {
          tree = p.tree;
          ordered = record { tree = linked_tree p.tree p.is; chained = subst D (sym p.after) (unlinked_now p.first p.last can kept) };
          first = p.first;
          last = p.last;
          before = p.before;
          after = p.after;
          counts = p.counts;
          sized = p.sized;
        }
