-- The order of slots by their values is strict.
use Rattle.std.proofs.Common.{◌≡◌, List, Option, Some, None, Ordering, Less, sym, ◌∙◌, is_lt, true≢false, ap}
use Rattle.std.specs.Cmp.{IsTotalOrder}
use Rattle.std.proofs.lemmas.Cmp.{tied_itself}
use Rattle.link_arena.specs.declared.slot.Slot.{Slot}
use Rattle.link_arena.specs.Tree.{IsStrict}
use Rattle.link_arena.specs.Slots.{Precedes, slot_cmp, value_at}

module _ {T : Type 0} (cmp : T → T → Ordering) where
  chained : IsTotalOrder cmp → (a b c : Option T) → slot_cmp cmp a b ≡ Less → slot_cmp cmp b c ≡ Less → slot_cmp cmp a c ≡ Less
  chained total None b c ab bc = absurd (true≢false (sym (ap is_lt ab)))
  chained total (Some a) None c ab bc = absurd (true≢false (sym (ap is_lt ab)))
  chained total (Some a) (Some b) None ab bc = absurd (true≢false (sym (ap is_lt bc)))
  chained total (Some a) (Some b) (Some c) ab bc = total.trans a b c ab bc

  never_below : IsTotalOrder cmp → (a : Option T) → slot_cmp cmp a a ≡ Less → ⊥
  never_below total None e = true≢false (sym (ap is_lt e))
  never_below total (Some a) e = true≢false (sym (ap is_lt (sym (tied_itself total a) ∙ e)))

  pub precedes_strict : (slots : List (Slot T)) → IsTotalOrder cmp → IsStrict (Precedes cmp slots)
  precedes_strict slots total = record {
    transitive = λ a b c. chained total (value_at slots a) (value_at slots b) (value_at slots c);
    irreflexive = λ a. never_below total (value_at slots a);
  }
