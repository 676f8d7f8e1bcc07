-- What an arena's trees and its list of vacant slots tell of its lists.
use Rattle.std.proofs.Common.{◌≡◌, ◌≢◌, ℕ, zero, suc, ◌+◌, ◌*◌, ◌^◌, ◌<◌, ◌≤◌, inl, inr, Option, None, Some, arith, refl, ap, sym, ◌∙◌, subst, List, [], ◌∷◌, length, Contains, slice_get, Ordering, Equal, All, Bor, MatchOption, length-append, add-one}
use Rattle.std.specs.Option.{option_copied}
use Rattle.std.proofs.lemmas.List.Elements.{All-weaker, All-contains_itself}
use Rattle.std.specs.Cmp.{IsTotalOrder}
use Rattle.std.specs.List.Sorted.{IsStrictlySortedBy}
use Rattle.std.proofs.Math.Nat.{eq-zero-or-pos}
use Rattle.std.proofs.lemmas.Bool.{cases_lt}
use Rattle.std.proofs.lemmas.List.{get_or_past}
use Rattle.link_arena.specs.declared.twice.Order.{Order}
use Rattle.link_arena.specs.declared.twice.Order.TheVariants.{Key, Rank}
use Rattle.link_arena.specs.declared.slot.Slot.{Slot}
use Rattle.link_arena.specs.Tree.{Tree, Stands, slots_of, size, times, hit, count_of}
use Rattle.link_arena.specs.Tree.Tree.{leaf, node}
use Rattle.link_arena.specs.Chain.{AreNexts, first_or}
use Rattle.link_arena.specs.Ordered.{IsFilled}
use Rattle.link_arena.specs.Sound.{IsKept, AreVacant}
use Rattle.link_arena.specs.declared.both.Tops.{Tops}
use Rattle.link_arena.specs.Both.{top_of}
use Rattle.link_arena.specs.Arena.{Arena, AreTwoOrders, Holds, IsVacant, in_order, slots_in}
use Rattle.link_arena.specs.View.{arena_of, pairs_below, pairs_of}
use Rattle.link_arena.specs.Slots.{side, afters, value_at, value_in, no_slot, Precedes, IsTied}
use Rattle.link_arena.proofs.Bound.{low, square}
use Rattle.link_arena.proofs.Trees.{grown_is}
use Rattle.link_arena.proofs.Lists.{count_tree, is_hit, to_list}
use Rattle.link_arena.proofs.Orders.{precedes_strict}
use Rattle.link_arena.proofs.Views.{AreFilled, pairs_length, pairs_slots, pairs_there, pairs_hold, pairs_rise}

pub size_slots : (t : Tree) → length (slots_of t) ≡ size t
size_slots leaf = refl
size_slots (node a i b) = omega (arith, length-append (slots_of a) (i ∷ slots_of b), size_slots a, size_slots b)

pub first_get : (xs : List ℕ) → first_or None xs ≡ slice_get xs 0
first_get [] = refl
first_get (x ∷ xs) = refl

-- what the slot at a place names is the slot one place on
pub next_get : (after : ℕ → Option ℕ) (xs : List ℕ) (i s : ℕ) → AreNexts after xs None → slice_get xs i ≡ Some s → after s ≡ slice_get xs (i + 1)
next_get after [] i s nexts there = absurd cc
next_get after (x ∷ xs) zero s nexts there = let same : x ≡ s = cc in ap after (sym same) ∙ nexts.0 ∙ first_get xs
next_get after (x ∷ xs) (suc i) s nexts there = rw add-one (next_get after xs i s nexts.1 there ∙ ap (slice_get xs) (omega arith))

-- a tree with a slot in it is not empty
pub size_there : (t : Tree) (s : ℕ) → 0 < times s t → 1 ≤ size t
size_there leaf s h = absurd (omega arith)
size_there (node a i b) s h = omega arith

module _ {T : Type 0} where
  -- a slot of the list of vacant ones holds no value
  pub vacant_there : (slots : List (Slot T)) (first : Option ℕ) (free : List ℕ) (s : ℕ) → AreVacant slots first free → 0 < count_of s free → value_at slots s ≡ None
  vacant_there slots first [] s are h = absurd (omega arith)
  vacant_there slots first (x ∷ free) s are h = elim (eq-zero-or-pos (hit s x)) [
    | inl none ↦ vacant_there slots (are.1).0 free s (are.1).2 (omega arith)
    | inr some ↦ ap (λ i. value_at slots i) (is_hit s x some) ∙ ap value_in (are.1).1
  ]

  -- nor does one behind the last
  pub beyond : (slots : List (Slot T)) (s : ℕ) → length slots ≤ s → value_at slots s ≡ None
  beyond slots s le = ap (λ slot. value_in slot.content) (get_or_past slots s no_slot le)

module _ {T : Type 0} (cmp : Order → T → T → Ordering) (slots : List (Slot T)) (key rank vacant : Option ℕ) (held : ℕ) (t u : Tree) (free : List ℕ) (k : IsKept cmp slots key rank vacant held t u free) where
  pub filled : AreFilled (value_at slots) (slots_of t)
  filled s h = k.filled s (omega (arith, count_tree s t))

  pub key_filled : IsFilled (cmp Key) Key slots key t
  key_filled = record { tree = k.both.by_key.tree; filled = k.filled }

  pub filled_rank : AreFilled (value_at slots) (slots_of u)
  filled_rank s h = k.filled s (omega (arith, count_tree s u, k.both.same s))

  -- ---- the lists by key and by rank

  pub key_view : pairs_below Key slots key ≡ pairs_of (value_at slots) (slots_of t)
  key_view = ap (λ tree. pairs_of (value_at slots) (slots_of tree)) (grown_is (length slots) (side Key slots) key t (omega (arith, low t, k.key_size, k.all)) k.both.by_key.tree.stands)

  pub rank_view : pairs_below Rank slots rank ≡ pairs_of (value_at slots) (slots_of u)
  rank_view = ap (λ tree. pairs_of (value_at slots) (slots_of tree)) (grown_is (length slots) (side Rank slots) rank u (omega (arith, low u, k.rank_size, k.all)) k.both.by_rank.tree.stands)

  pub key_length : length (pairs_below Key slots key) ≡ held
  key_length = ap length key_view ∙ pairs_length (value_at slots) (slots_of t) filled ∙ size_slots t ∙ k.key_size

  pub rank_length : length (pairs_below Rank slots rank) ≡ held
  rank_length = ap length rank_view ∙ pairs_length (value_at slots) (slots_of u) filled_rank ∙ size_slots u ∙ k.rank_size

  -- ---- a slot and its value

  -- a slot that holds a value stands in the trees
  pub in_tree : (s : ℕ) → value_at slots s ≢ None → 0 < times s t
  in_tree s some = elim (eq-zero-or-pos (times s t)) [
    | inl none ↦ elim (cases_lt s (length slots)) [
      | inl lt ↦ absurd (some (vacant_there slots vacant free s k.vacant_are (omega (arith, k.once s lt))))
      | inr ge ↦ absurd (some (beyond slots s ge))
    ]
    | inr there ↦ there
  ]

  pub holds : (s : ℕ) (v : T) → value_at slots s ≡ Some v → Contains (pairs_below Key slots key) (s, v)
  holds s v is =
      let there : 0 < times s t = in_tree s (λ none. cc) in
      subst (λ pairs. Contains pairs (s, v)) (sym key_view) (pairs_there (value_at slots) (slots_of t) s v (omega (arith, count_tree s t)) is)

  pub holds_rank : (s : ℕ) (v : T) → value_at slots s ≡ Some v → Contains (pairs_below Rank slots rank) (s, v)
  holds_rank s v is =
      let there : 0 < times s t = in_tree s (λ none. cc) in
      subst (λ pairs. Contains pairs (s, v)) (sym rank_view) (pairs_there (value_at slots) (slots_of u) s v (omega (arith, count_tree s u, k.both.same s)) is)

  pub value_held : (s : ℕ) (v : T) → Contains (pairs_below Key slots key) (s, v) → value_at slots s ≡ Some v
  value_held s v c = (pairs_hold (value_at slots) (slots_of t) s v (subst (λ pairs. Contains pairs (s, v)) key_view c)).1

  value_held_rank : (s : ℕ) (v : T) → Contains (pairs_below Rank slots rank) (s, v) → value_at slots s ≡ Some v
  value_held_rank s v c = (pairs_hold (value_at slots) (slots_of u) s v (subst (λ pairs. Contains pairs (s, v)) rank_view c)).1

  -- ---- two orders

  rises : (total : (order : Order) → IsTotalOrder (cmp order)) (capacity : ℕ) (order : Order) → IsStrictlySortedBy (λ (a b : ℕ × T). cmp order a.1 b.1) (in_order order (arena_of slots key rank held capacity))
  rises total capacity Key =
      subst (λ pairs. IsStrictlySortedBy (λ (a b : ℕ × T). cmp Key a.1 b.1) pairs) (sym key_view)
      (pairs_rise (cmp Key) (value_at slots) (slots_of t) (to_list (Precedes (cmp Key) slots) (precedes_strict (cmp Key) slots (total Key)) t k.both.by_key.tree.rising))
  rises total capacity Rank =
      subst (λ pairs. IsStrictlySortedBy (λ (a b : ℕ × T). cmp Rank a.1 b.1) pairs) (sym rank_view)
      (pairs_rise (cmp Rank) (value_at slots) (slots_of u) (to_list (Precedes (cmp Rank) slots) (precedes_strict (cmp Rank) slots (total Rank)) u k.both.by_rank.tree.rising))

  pub orders : ((order : Order) → IsTotalOrder (cmp order)) → (capacity : ℕ) → AreTwoOrders cmp (arena_of slots key rank held capacity)
  orders total capacity = record {
    rises = rises total capacity;
    same = λ pair. (λ c. holds_rank pair.0 pair.1 (value_held pair.0 pair.1 c), λ c. holds pair.0 pair.1 (value_held_rank pair.0 pair.1 c));
    apart = λ s a b ca cb. let first = value_held s a ca in let second = value_held s b cb in cc;
    sizes = key_length ∙ sym rank_length;
  }

  -- ---- the slots in order

  pub slots_view : (capacity : ℕ) → slots_in (in_order Key (arena_of slots key rank held capacity)) ≡ slots_of t
  slots_view capacity = ap slots_in key_view ∙ pairs_slots (value_at slots) (slots_of t) filled

  pub slots_view_rank : (capacity : ℕ) → slots_in (in_order Rank (arena_of slots key rank held capacity)) ≡ slots_of u
  slots_view_rank capacity = ap slots_in rank_view ∙ pairs_slots (value_at slots) (slots_of u) filled_rank

  -- the first slot of an order
  pub first_told : (capacity : ℕ) (tops : Tops) → tops.key ≡ key → tops.rank ≡ rank → (order : Order) (first : Option ℕ) → ((tree : Tree) → Stands (side order slots) (top_of order tops) tree → first ≡ first_or None (slots_of tree))
      → first ≡ slice_get (slots_in (in_order order (arena_of slots key rank held capacity))) 0
  first_told capacity tops key_is rank_is Key first tells = tells t (subst (λ o. Stands (side Key slots) o t) (sym key_is) k.both.by_key.tree.stands) ∙ first_get (slots_of t) ∙ ap (λ xs. slice_get xs 0) (sym (slots_view capacity))
  first_told capacity tops key_is rank_is Rank first tells = tells u (subst (λ o. Stands (side Rank slots) o u) (sym rank_is) k.both.by_rank.tree.stands) ∙ first_get (slots_of u) ∙ ap (λ xs. slice_get xs 0) (sym (slots_view_rank capacity))

  -- the slot that another one names is the next of the order
  pub next_told : (capacity : ℕ) (order : Order) (s i : ℕ) → slice_get (slots_in (in_order order (arena_of slots key rank held capacity))) i ≡ Some s
      → afters order slots s ≡ slice_get (slots_in (in_order order (arena_of slots key rank held capacity))) (i + 1)
  next_told capacity Key s i there =
      next_get (afters Key slots) (slots_of t) i s k.both.by_key.chained.nexts (ap (λ xs. slice_get xs i) (sym (slots_view capacity)) ∙ there) ∙ ap (λ xs. slice_get xs (i + 1)) (sym (slots_view capacity))
  next_told capacity Rank s i there =
      next_get (afters Rank slots) (slots_of u) i s k.both.by_rank.chained.nexts (ap (λ xs. slice_get xs i) (sym (slots_view_rank capacity)) ∙ there) ∙ ap (λ xs. slice_get xs (i + 1)) (sym (slots_view_rank capacity))

  -- the value of a slot
  pub value_told : (capacity : ℕ) (s : ℕ) (o : Option (Bor T)) → option_copied o ≡ value_at slots s
      → MatchOption o (IsVacant (arena_of slots key rank held capacity) s) (λ value. Holds (arena_of slots key rank held capacity) s value.now)
  value_told capacity s None is = λ v c. let some = value_held s v c in cc
  value_told capacity s (Some value) is = holds s value.now (sym is)

  -- the slot whose value ties with a probe
  pub slot_told : (capacity : ℕ) (probe : T) (o : Option ℕ)
      → MatchOption o ((s : ℕ) → 0 < times s t → ¬ IsTied (cmp Key) probe (value_at slots s)) (λ s. (0 < times s t) × IsTied (cmp Key) probe (value_at slots s))
      → MatchOption o (All (λ (pair : ℕ × T). cmp Key probe pair.1 ≢ Equal) (pairs_below Key slots key)) (λ s. (value : T) × Holds (arena_of slots key rank held capacity) s value × (cmp Key probe value ≡ Equal))
  slot_told capacity probe None never =
      All-weaker (λ pair. Contains (pairs_below Key slots key) pair) (λ (pair : ℕ × T). cmp Key probe pair.1 ≢ Equal)
      (λ pair c tied. let is = value_held pair.0 pair.1 c in never pair.0 (in_tree pair.0 (λ none. cc)) (subst (IsTied (cmp Key) probe) (sym is) tied))
      (pairs_below Key slots key) (All-contains_itself (pairs_below Key slots key))
  slot_told capacity probe (Some s) found =
      let P : Option T → Type 0 = λ o. value_at slots s ≡ o → IsTied (cmp Key) probe o → (value : T) × Holds (arena_of slots key rank held capacity) s value × (cmp Key probe value ≡ Equal) in
      let each : (o : Option T) → P o = elim [ None ↦ λ is tied. absurd tied | Some value ↦ λ is tied. (value, holds s value is, tied) ] in
      each (value_at slots s) refl found.1

  -- an arena of n values is n long, and what is within the square of a tree's size and two is within that of n and two
  pub few_told : (capacity : ℕ) (seen : Arena T) → arena_of slots key rank held capacity ≡ seen → (m : ℕ) → m ≤ (size t + 2) * (size t + 2) → m ≤ (length seen.by_key + 2) ^ 2
  few_told capacity seen view m le =
      let n : length seen.by_key ≡ size t = sym (ap (λ a. length a.by_key) view) ∙ key_length ∙ sym k.key_size in
      rw (n, square (size t + 2)) le
