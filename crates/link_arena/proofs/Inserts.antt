-- A value that is put in keeps the arena sound, and adds one pair to each list.
use Rattle.std.proofs.Common.{◌≡◌, ◌≢◌, ℕ, ◌+◌, ◌-◌, ◌^◌, ◌<◌, ◌≤◌, ◌⊎◌, inl, inr, Option, None, Some, arith, refl, ap, sym, ◌∙◌, subst, List, [], ◌∷◌, length, Ordering, Less, Equal, Greater, All}
use Rattle.std.specs.Cmp.{IsTotalOrder}
use Rattle.std.specs.Ordering.{ordering_reverse}
use Rattle.std.specs.Option.{ForSome}
use Rattle.std.proofs.Math.Nat.{eq-zero-or-pos}
use Rattle.std.proofs.lemmas.List.Elements.{All-contains}
use Rattle.link_arena.specs.declared.twice.Order.{Order}
use Rattle.link_arena.specs.declared.twice.Order.TheVariants.{Key, Rank}
use Rattle.link_arena.specs.declared.slot.Slot.{Slot}
use Rattle.link_arena.specs.Tree.{Tree, slots_of, times, hit, count_of}
use Rattle.link_arena.specs.Ordered.{IsOrdered}
use Rattle.link_arena.specs.Both.{CanAdd, AreAdded}
use Rattle.link_arena.specs.Vacant.{IsVacantAt, IsFilledIn, IsReused, IsAppended}
use Rattle.link_arena.specs.Sound.{IsKept, IsSound, AreVacant}
use Rattle.link_arena.specs.Arena.{Arena, AreTwoOrders, IsOneMore}
use Rattle.link_arena.specs.View.{arena_of, pairs_below}
use Rattle.link_arena.specs.Slots.{slot_at, content_at, value_at, value_in, slot_cmp, Precedes, link_of, ends_of}
use Rattle.link_arena.proofs.Trees.{hit_same}
use Rattle.link_arena.proofs.Lists.{count_append, count_tree, is_hit}
use Rattle.link_arena.proofs.Kept.{ordered_still}
use Rattle.link_arena.proofs.Views.{one_more}
use Rattle.link_arena.proofs.Sounds.{holds, key_view, rank_view, orders}

-- two equal counts
pub same_hit : (s i : ℕ) (t : Tree) → s ≡ i → (times s t ≡ times i t) × (hit s i ≡ 1)
same_hit s i t e = (ap (λ k. times k t) e, ap (λ k. hit k i) e ∙ hit_same i)

module _ {T : Type 0} where
  -- the list of vacant slots stays where its slots do
  pub vacant_still : (one two : List (Slot T)) (first : Option ℕ) (free : List ℕ) → ((s : ℕ) → 0 < count_of s free → content_at two s ≡ content_at one s) → AreVacant one first free → AreVacant two first free
  vacant_still one two first [] still are = are
  vacant_still one two first (s ∷ free) still are =
      (are.0, (are.1.0, still s (omega (arith, hit_same s)) ∙ are.1.1, vacant_still one two are.1.0 free (λ x h. still x (omega arith)) are.1.2))

  pub vacant_first : (slots : List (Slot T)) (first : Option ℕ) (free : List ℕ) → ((s : ℕ) → 0 < count_of s free → s < length slots) → AreVacant slots first free → ForSome first (IsVacantAt slots)
  vacant_first slots first [] within are slot is = absurd cc
  vacant_first slots first (s ∷ free) within are slot is =
      let same : s ≡ slot = let top = are.0 in cc in
      subst (IsVacantAt slots) same (record { below = within s (omega (arith, hit_same s)); next = are.1.0; vacant = are.1.1 })

  pub none_vacant : (slots : List (Slot T)) (first : Option ℕ) (free : List ℕ) → first ≡ None → AreVacant slots first free → free ≡ []
  none_vacant slots first [] none are = refl
  none_vacant slots first (s ∷ free) none are = let top = are.0 in absurd cc

module _ {T : Type 0} (cmp : Order → T → T → Ordering) (old mid : List (Slot T)) (key rank vacant : Option ℕ) (held : ℕ) (t u : Tree) (free : List ℕ) (k : IsKept cmp old key rank vacant held t u free)
    (value : T) (slot : ℕ) (next : Option ℕ) (f : IsFilledIn old mid vacant value slot next) where
  -- the slots that are vacant once the value is in
  pub record AreLeft : Type 0 where
    pub left : List ℕ
    pub vacant_are : AreVacant mid next left
    pub once : (s : ℕ) → s < length mid → times s t + hit s slot + count_of s left ≡ 1
    pub within : (s : ℕ) → 0 < count_of s left → s < length mid
    pub all : held + 1 + length left ≡ length mid
    pub below : slot < length mid
    pub fresh : times slot t ≡ 0
    pub longer : length old ≤ length mid
    pub few : held < 2 ^ 31 - 1 → length mid < 2 ^ 31

  left_reused : (free : List ℕ) → IsKept cmp old key rank vacant held t u free → IsReused old mid vacant slot next → AreLeft
  left_reused [] k r = let first = k.vacant_are in let is = r.first in absurd cc
  left_reused (x ∷ free) k r =
      let same : x ≡ slot = let top = k.vacant_are.0 in let is = r.first in cc in
      let named : k.vacant_are.1.0 ≡ next = let is : content_at old x ≡ content_at old slot = ap (content_at old) same in let was = k.vacant_are.1.1 in let now = r.named in cc in
      let hits : (s : ℕ) → hit s x ≡ hit s slot = λ s. ap (hit s) same in
      let in_old : slot < length old = subst (λ i. i < length old) same (k.within x (omega (arith, hit_same x))) in
      let here = hit_same slot in
      let apart = k.once slot in_old in
      let same_length = r.same in
      record {
        left = free;
        vacant_are = vacant_still old mid next free
            (λ s h. ap (λ z. z.content) (f.elsewhere s (λ e. let both = same_hit s slot t e in let twice : count_of s free ≡ count_of slot free = ap (λ i. count_of i free) e in omega (arith, hits slot))))
            (subst (λ o. AreVacant old o free) named k.vacant_are.1.2);
        once = λ s h. omega (arith, k.once s (omega arith), hits s);
        within = λ s h. omega (arith, k.within s (omega arith));
        all = omega (arith, k.all);
        below = omega arith;
        fresh = omega (arith, hits slot);
        longer = omega arith;
        few = λ room. omega (arith, k.few);
      }

  left_appended : IsAppended old mid vacant slot next → AreLeft
  left_appended r =
      let empty = none_vacant old vacant free r.none k.vacant_are in
      let no_count : (s : ℕ) → count_of s free ≡ 0 = λ s. ap (count_of s) empty in
      let last = r.last in
      let one_more = r.one_more in
      let never : times slot t ≡ 0 = elim (eq-zero-or-pos (times slot t)) [ inl none ↦ none | inr some ↦ absurd (omega (arith, k.both.by_key.tree.within slot some)) ] in
      record {
        left = [];
        vacant_are = r.no_next;
        once = λ s h. elim (eq-zero-or-pos (hit s slot)) [
          | inl none ↦ let other : s ≢ slot = λ e. let both = same_hit s slot t e in omega arith in omega (arith, k.once s (omega arith), no_count s)
          | inr some ↦ let both = same_hit s slot t (is_hit s slot some) in omega arith
        ];
        within = λ s h. absurd (omega arith);
        all = omega (arith, k.all, ap length empty);
        below = omega arith;
        fresh = never;
        longer = omega arith;
        few = λ room. omega (arith, k.few, k.all, ap length empty);
      }

  pub are_left : AreLeft
  are_left = elim f.how [ inl r ↦ left_reused free k r | inr r ↦ left_appended r ]

  -- a slot of the trees is not the one that was filled
  other_slot : (s : ℕ) → 0 < times s t → s ≢ slot
  other_slot s h e = let both = same_hit s slot t e in omega (arith, are_left.fresh)

  kept_slot : (s : ℕ) → 0 < times s t → slot_at mid s ≡ slot_at old s
  kept_slot s h = f.elsewhere s (other_slot s h)

  kept_order : (order : Order) (c : T → T → Ordering) (root : Option ℕ) (tree : Tree) → ((s : ℕ) → 0 < times s tree → 0 < times s t) → IsOrdered c order old root tree → IsOrdered c order mid root tree
  kept_order order c root tree inside is = ordered_still c order old mid root tree are_left.longer
      (λ s h. ap (link_of order) (kept_slot s (inside s h))) (λ s h. ap (ends_of order) (kept_slot s (inside s h))) (λ s h. ap (λ z. value_in z.content) (kept_slot s (inside s h))) is

  module _ (total : (order : Order) → IsTotalOrder (cmp order)) (apart : (a b : T) → cmp Rank a b ≡ Equal → cmp Key a b ≡ Equal)
      (unlike : All (λ (pair : ℕ × T). cmp Key value pair.1 ≢ Equal) (pairs_below Key old key)) (room : held < 2 ^ 31 - 1) where
    -- two values whose keys differ differ in either order
    differs_in : (order : Order) (v : T) → cmp Key value v ≢ Equal → cmp order value v ≢ Equal
    differs_in Key v never e = never e
    differs_in Rank v never e = never (apart value v e)

    differs : (order : Order) (s : ℕ) → 0 < times s t → Precedes (cmp order) mid s slot ⊎ Precedes (cmp order) mid slot s
    differs order s h =
        let P : Option T → Type 0 = λ o. value_at old s ≡ o → Precedes (cmp order) mid s slot ⊎ Precedes (cmp order) mid slot s in
        let each : (o : Option T) → P o = elim [
          | None ↦ λ none. absurd (k.filled s h none)
          | Some v ↦ λ is.
              let there : value_at mid s ≡ Some v = ap (λ z. value_in z.content) (kept_slot s h) ∙ is in
              let never : cmp order value v ≢ Equal = differs_in order v (All-contains (λ (pair : ℕ × T). cmp Key value pair.1 ≢ Equal) (pairs_below Key old key) (s, v) unlike (holds cmp old key rank vacant held t u free k s v is)) in
              let Q : Ordering → Type 0 = λ o. cmp order value v ≡ o → Precedes (cmp order) mid s slot ⊎ Precedes (cmp order) mid slot s in
              let either : (o : Ordering) → Q o = elim [
                | Less ↦ λ e. inr (ap (slot_cmp (cmp order) (value_at mid slot)) there ∙ ap (λ o. slot_cmp (cmp order) o (Some v)) f.here ∙ e)
                | Equal ↦ λ e. absurd (never e)
                | Greater ↦ λ e. inl (ap (slot_cmp (cmp order) (value_at mid s)) f.here ∙ ap (λ o. slot_cmp (cmp order) o (Some value)) there ∙ (total order).antisymm v value ∙ ap ordering_reverse e)
              ] in
              either (cmp order value v) refl
        ] in
        each (value_at old s) refl

    pub can_add : CanAdd cmp mid key rank t u slot
    can_add = record {
      both = record {
        by_key = kept_order Key (cmp Key) key t (λ s h. h) k.both.by_key;
        by_rank = kept_order Rank (cmp Rank) rank u (λ s h. omega (arith, k.both.same s)) k.both.by_rank;
        same = k.both.same;
      };
      fresh = are_left.fresh;
      below = are_left.below;
      differs = differs;
      room = omega (arith, k.key_size);
      rank_room = omega (arith, k.rank_size);
    }

  module _ (new : List (Slot T)) (key_new rank_new : Option ℕ) (a : AreAdded cmp new key_new rank_new t u slot) (contents : (s : ℕ) → content_at new s ≡ content_at mid s) (same : length mid ≡ length new) (room : held < 2 ^ 31 - 1) where
    values : (s : ℕ) → value_at new s ≡ value_at mid s
    values s = ap value_in (contents s)

    -- the arena is sound with the value in it
    pub kept_with : IsKept cmp new key_new rank_new next (held + 1) a.key_added.tree a.rank_added.tree are_left.left
    kept_with =
        let l = are_left in
        record {
          both = a.both;
          filled = λ s h none. elim (eq-zero-or-pos (hit s slot)) [
            | inl no_hit ↦ let old_there : 0 < times s t = omega (arith, a.key_added.counts s) in k.filled s old_there (sym (ap (λ z. value_in z.content) (kept_slot s old_there)) ∙ sym (values s) ∙ none)
            | inr some ↦ let is : value_at mid s ≡ value_at mid slot = ap (value_at mid) (is_hit s slot some) in let now = f.here in let was = values s in cc
          ];
          vacant_are = vacant_still mid new next l.left (λ s h. contents s) l.vacant_are;
          once = λ s h. omega (arith, l.once s (omega arith), a.key_added.counts s);
          within = λ s h. omega (arith, l.within s h);
          key_size = omega (arith, a.key_added.sized, k.key_size);
          rank_size = omega (arith, a.rank_added.sized, k.rank_size);
          all = omega (arith, l.all);
          few = omega (arith, l.few room);
        }

    still : (s : ℕ) → 0 < times s t → value_at new s ≡ value_at old s
    still s h = values s ∙ ap (λ z. value_in z.content) (kept_slot s h)

    pub one_more_by_key : IsOneMore (pairs_below Key old key) (slot, value) (pairs_below Key new key_new)
    one_more_by_key =
        let b = a.key_added in
        one_more (value_at old) (value_at new) (pairs_below Key old key) (pairs_below Key new key_new) (slots_of t) (slots_of b.tree) b.first b.last slot value
        (key_view cmp old key rank vacant held t u free k) (key_view cmp new key_new rank_new next (held + 1) b.tree a.rank_added.tree are_left.left kept_with)
        b.before b.after (values slot ∙ f.here) (λ s h. still s (omega (arith, count_tree s t, ap (count_of s) b.before, count_append s b.first b.last)))

    pub one_more_by_rank : IsOneMore (pairs_below Rank old rank) (slot, value) (pairs_below Rank new rank_new)
    one_more_by_rank =
        let b = a.rank_added in
        one_more (value_at old) (value_at new) (pairs_below Rank old rank) (pairs_below Rank new rank_new) (slots_of u) (slots_of b.tree) b.first b.last slot value
        (rank_view cmp old key rank vacant held t u free k) (rank_view cmp new key_new rank_new next (held + 1) a.key_added.tree b.tree are_left.left kept_with)
        b.before b.after (values slot ∙ f.here) (λ s h. still s (omega (arith, k.both.same s, count_tree s u, ap (count_of s) b.before, count_append s b.first b.last)))

-- what a value that is put in leaves
pub record IsInserted {T : Type 0} (cmp : Order → T → T → Ordering) (old : Arena T) (slots : List (Slot T)) (key rank vacant : Option ℕ) (held slot : ℕ) (value : T) : Type 0 where
  pub sound : IsSound cmp slots key rank vacant held
  pub by_key : IsOneMore old.by_key (slot, value) (pairs_below Key slots key)
  pub by_rank : IsOneMore old.by_rank (slot, value) (pairs_below Rank slots rank)
  pub orders : (capacity : ℕ) → AreTwoOrders cmp (arena_of slots key rank held capacity)

module _ {T : Type 0} (cmp : Order → T → T → Ordering) (old mid lent : List (Slot T)) (key rank vacant next : Option ℕ) (held slot : ℕ) (value : T) (s : IsSound cmp old key rank vacant held)
    (total : (order : Order) → IsTotalOrder (cmp order)) (apart : (a b : T) → cmp Rank a b ≡ Equal → cmp Key a b ≡ Equal) (capacity : ℕ) (seen : Arena T) (view : arena_of old key rank held capacity ≡ seen)
    (room : 1 ≤ seen.spare) (unlike : All (λ (pair : ℕ × T). cmp Key value pair.1 ≢ Equal) seen.by_key) (f : IsFilledIn old mid vacant value slot next) (lends : lent ≡ mid) where
  few : held < 2 ^ 31 - 1
  few = omega (arith, ap (λ a. a.spare) view)

  pub can_add_to : CanAdd cmp lent key rank s.0 s.1 slot
  can_add_to =
      subst (λ slots. CanAdd cmp slots key rank s.0 s.1 slot) (sym lends)
      (can_add cmp old mid key rank vacant held s.0 s.1 s.2 s.3 value slot next f total apart (subst (λ a. All (λ (pair : ℕ × T). cmp Key value pair.1 ≢ Equal) a.by_key) (sym view) unlike) few)

  pub inserted : (new whole : List (Slot T)) (key_new rank_new : Option ℕ) → ((t u : Tree) → CanAdd cmp lent key rank t u slot → AreAdded cmp new key_new rank_new t u slot) → ((i : ℕ) → content_at new i ≡ content_at lent i)
      → length lent ≡ length new → whole ≡ new → IsInserted cmp seen whole key_new rank_new next (held + 1) slot value
  inserted new whole key_new rank_new adds contents same is =
      let a = adds s.0 s.1 can_add_to in
      let stays : (i : ℕ) → content_at new i ≡ content_at mid i = λ i. contents i ∙ ap (λ slots. content_at slots i) lends in
      let sizes : length mid ≡ length new = sym (ap length lends) ∙ same in
      let left = (are_left cmp old mid key rank vacant held s.0 s.1 s.2 s.3 value slot next f).left in
      let k = kept_with cmp old mid key rank vacant held s.0 s.1 s.2 s.3 value slot next f new key_new rank_new a stays sizes few in
      subst (λ slots. IsInserted cmp seen slots key_new rank_new next (held + 1) slot value) (sym is) (record {
        sound = (a.key_added.tree, a.rank_added.tree, left, k);
        by_key = subst (λ v. IsOneMore v.by_key (slot, value) (pairs_below Key new key_new)) view (one_more_by_key cmp old mid key rank vacant held s.0 s.1 s.2 s.3 value slot next f new key_new rank_new a stays sizes few);
        by_rank = subst (λ v. IsOneMore v.by_rank (slot, value) (pairs_below Rank new rank_new)) view (one_more_by_rank cmp old mid key rank vacant held s.0 s.1 s.2 s.3 value slot next f new key_new rank_new a stays sizes few);
        orders = orders cmp new key_new rank_new next (held + 1) a.key_added.tree a.rank_added.tree left k total;
      })
