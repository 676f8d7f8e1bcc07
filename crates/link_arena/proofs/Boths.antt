-- A slot added to two orders in turn, and removed.
use Rattle.std.proofs.Common.{◌≡◌, ℕ, Option, arith, ap, sym, ◌∙◌, inl, inr, List, length, Ordering}
use Rattle.link_arena.specs.declared.twice.Order.{Order}
use Rattle.link_arena.specs.declared.twice.Order.TheVariants.{Key, Rank}
use Rattle.link_arena.specs.declared.slot.Slot.{Slot}
use Rattle.link_arena.specs.Tree.{Tree, CanPut}
use Rattle.link_arena.specs.Ordered.{IsOrdered, IsAdded, IsRemoved}
use Rattle.link_arena.specs.Both.{CanAdd, AreAdded, CanRemove, AreRemoved}
use Rattle.link_arena.specs.Slots.{side, content_at, value_in, Precedes}
use Rattle.link_arena.proofs.Kept.{precedes_still}

module _ {T : Type 0} (cmp : Order → T → T → Ordering) (key rank : Option ℕ) (t u : Tree) (slot : ℕ) where
  pub can_key : (slots : List (Slot T)) → CanAdd cmp slots key rank t u slot → CanPut (side Key slots) (Precedes (cmp Key) slots) (length slots) key t slot
  can_key slots c = record { tree = c.both.by_key.tree; fresh = c.fresh; below = c.below; differs = c.differs Key; room = c.room }

  -- where the slot was added to the first order, it can be to the second
  pub can_rank : (one two : List (Slot T)) → CanAdd cmp one key rank t u slot → length one ≡ length two → ((s : ℕ) → content_at two s ≡ content_at one s)
      → IsOrdered (cmp Rank) Rank two rank u → CanPut (side Rank two) (Precedes (cmp Rank) two) (length two) rank u slot
  can_rank one two c n contents stands =
      let still = λ (s v : ℕ). precedes_still (cmp Rank) one two s v (ap value_in (contents s)) (ap value_in (contents v)) in
      record {
        tree = stands.tree;
        fresh = sym (c.both.same slot) ∙ c.fresh;
        below = omega (arith, c.below);
        differs = λ s h. elim (c.differs Rank s (omega (arith, c.both.same s))) [ inl e ↦ inl (still s slot e) | inr e ↦ inr (still slot s e) ];
        room = c.rank_room;
      }

  pub both_added : (one two three : List (Slot T)) (k r : Option ℕ) → CanAdd cmp one key rank t u slot
      → (a : IsAdded (cmp Key) Key two k t slot) → IsOrdered (cmp Key) Key three k a.tree → (b : IsAdded (cmp Rank) Rank three r u slot) → AreAdded cmp three k r t u slot
  both_added one two three k r c a kept b =
      record {
        key_added = record { tree = a.tree; ordered = kept; first = a.first; last = a.last; before = a.before; after = a.after; counts = a.counts; sized = a.sized };
        rank_added = b;
        both = record { by_key = kept; by_rank = b.ordered; same = λ s. omega (arith, a.counts s, b.counts s, c.both.same s) };
      }

  pub both_removed : (one two three : List (Slot T)) (k r : Option ℕ) → CanRemove cmp one key rank t u slot
      → (a : IsRemoved (cmp Key) Key two k t slot) → IsOrdered (cmp Key) Key three k a.tree → (b : IsRemoved (cmp Rank) Rank three r u slot) → AreRemoved cmp three k r t u slot
  both_removed one two three k r c a kept b =
      record {
        key_removed = record { tree = a.tree; ordered = kept; first = a.first; last = a.last; before = a.before; after = a.after; counts = a.counts; sized = a.sized };
        rank_removed = b;
        both = record { by_key = kept; by_rank = b.ordered; same = λ s. omega (arith, a.counts s, b.counts s, c.both.same s) };
      }
