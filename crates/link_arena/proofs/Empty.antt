-- The arena without values.
use Rattle.std.proofs.Common.{◌≡◌, ℕ, arith, refl, sym, subst, None, List, [], Ordering}
use Rattle.std.specs.Cmp.{IsTotalOrder}
use Rattle.link_arena.specs.declared.twice.Order.{Order}
use Rattle.link_arena.specs.declared.twice.Order.TheVariants.{Key, Rank}
use Rattle.link_arena.specs.declared.slot.Slot.{Slot}
use Rattle.link_arena.specs.Tree.Tree.{leaf}
use Rattle.link_arena.specs.Ordered.{IsOrdered}
use Rattle.link_arena.specs.Sound.{IsKept, IsSound}
use Rattle.link_arena.specs.Arena.{AreTwoOrders}
use Rattle.link_arena.specs.View.{arena_of}
use Rattle.link_arena.proofs.Sounds.{orders}

module _ {T : Type 0} (cmp : Order → T → T → Ordering) where
  no_tree : (order : Order) → IsOrdered {T = T} (cmp order) order [] None leaf
  no_tree order = record {
    tree = record {
      stands = refl;
      balanced = tt;
      within = λ s h. absurd (omega arith);
      apart = λ s. omega arith;
      rising = tt;
      few = omega arith;
    };
    chained = record { nexts = tt; previous = tt };
  }

  no_slot_kept : IsKept cmp [] None None None 0 leaf leaf []
  no_slot_kept = record {
    both = record { by_key = no_tree Key; by_rank = no_tree Rank; same = λ s. refl };
    filled = λ s h. absurd (omega arith);
    vacant_are = refl;
    once = λ s h. absurd (omega arith);
    within = λ s h. absurd (omega arith);
    key_size = refl;
    rank_size = refl;
    all = omega arith;
    few = omega arith;
  }

  pub nothing_kept : (slots : List (Slot T)) → slots ≡ [] → IsSound cmp slots None None None 0
  nothing_kept slots empty = subst (λ none. IsSound cmp none None None None 0) (sym empty) (leaf, leaf, [], no_slot_kept)

  pub no_orders : (slots : List (Slot T)) → ((order : Order) → IsTotalOrder (cmp order)) → (capacity : ℕ) → slots ≡ [] → AreTwoOrders cmp (arena_of slots None None 0 capacity)
  no_orders slots total capacity empty =
      subst (λ none. AreTwoOrders cmp (arena_of none None None 0 capacity)) (sym empty) (orders cmp [] None None None 0 leaf leaf [] no_slot_kept total capacity)
