-- What is seen of the slots of a hub, as they change one at a time.
use Rattle.std.proofs.Common.{◌≡◌, ◌≢◌, ◌<◌, ◌≤◌, ℕ, zero, suc, ◌+◌, ◌&&◌, Bool, true, false, not, cond, List, [], ◌∷◌, length, get_or, set, count_by, Option, Some, None, is_some, refl, sym, ap, subst, ◌∙◌, inl, inr, arith, true≢false}
use mir.Val.{bool_byte}
use Rattle.std.proofs.lemmas.Bool.{cases_eq, cases_lt}
use Rattle.std.proofs.lemmas.List.{get_or_past, map-set, length-map}
use Rattle.std.proofs.lemmas.List.Sums.{sum_by-cons, sum_by-set}
use Rattle.std.specs.Option.{option_map}
use Rattle.std.specs.declared.alloc.Global.{Global}
use Rattle.std.specs.declared.dyn_box.DynBox.{DynBox}
use Rattle.slab.specs.Slab.{Slab, get, slab_len, ContainsKey, Updates, with_value}
use Rattle.slab.proofs.SlabLemmas.{ContainsKey-within, Updates-with_value}
use Rattle.willow_entry.specs.Row.{RowValue}
use Rattle.willow_area.specs.declared.area.Area.{Area}
use Rattle.sub_hub.specs.Watchers.{WatcherFacts}
use Rattle.sub_hub.specs.Hubs.{MemberValue, hub_slot, numbered, IsSlotSet, IsWatcherAdded, IsTakenOut, IsTold, IsSlotTold, has_left, count_left, IsPumped, new_member, member_value, slots_seen, slot_seen}
use Rattle.sub_hub.specs.declared.key.HubKey.{HubKey}
use Rattle.sub_hub.specs.declared.member.Member.{Member}

-- one that left stays so, and is counted where it leaves
counted_once : (a b : Bool) → (a ≡ true → b ≡ true) → cond (not a && b) 1 0 + cond a 1 0 ≡ cond b 1 0
counted_once true true stays = refl
counted_once true false stays = absurd (true≢false (sym (stays refl)))
counted_once false true stays = refl
counted_once false false stays = refl

pub byte_is : (b : Bool) → bool_byte b ≡ cond b 1 0
byte_is true = refl
byte_is false = refl

at_most_one : (b : Bool) → cond b 1 0 ≤ 1
at_most_one true = omega arith
at_most_one false = omega arith

module _ {X : Type 0} {F : X → Type 0} (told : DynBox X Global F → WatcherFacts) where
  seen_at : (slots : List (Option (Member X F))) (k : ℕ) → hub_slot (slots_seen told slots) k ≡ option_map (member_value told) (get_or slots k None)
  seen_at [] k = refl
  seen_at (s ∷ ss) zero = refl
  seen_at (s ∷ ss) (suc k) = seen_at ss k

  set_seen : (old new : Slab (Member X F)) (key : ℕ) (slot : Option (Member X F)) → Updates old new key slot → IsSlotSet (slots_seen told old.slots) (slots_seen told new.slots) key (option_map (member_value told) slot)
  set_seen old new key slot up =
      record {
        changed = seen_at new.slots key ∙ ap (option_map (member_value told)) up.changed;
        others = λ other differs. seen_at new.slots other ∙ ap (option_map (member_value told)) (up.others other differs) ∙ sym (seen_at old.slots other);
      }

  -- ---- a watcher more, and one less

  pub added_one : (old new : Slab (Member X F)) (front added : ℕ) (served : Area) (key : HubKey) (m : Member X F) → get old key.slot ≡ None → Updates old new key.slot (Some m) → key.number ≡ added → m.number ≡ added → m.has_left ≡ false
      → IsWatcherAdded (record { members = slots_seen told old.slots; front = front; area = served; added = added }) (record { members = slots_seen told new.slots; front = front; area = served; added = added + 1 }) key m.area (told m.watcher)
  added_one old new front added served key m vacant up number numbered stays =
      let set = set_seen old new key.slot (Some m) up in
      let is : member_value told m ≡ new_member added m.area (told m.watcher) =
      ap (λ (n : ℕ). record { number = n; area = m.area; has_left = m.has_left; facts = told m.watcher }) numbered
      ∙ ap (λ (b : Bool). record { number = added; area = m.area; has_left = b; facts = told m.watcher }) stays in
      record {
        number = number;
        vacant = seen_at old.slots key.slot ∙ ap (option_map (member_value told)) vacant;
        members = record { changed = set.changed ∙ ap (λ (v : MemberValue). Some v) is; others = set.others };
        front = refl;
        same_area = refl;
        added = refl;
      }

  abbrev number_or : Option (Member X F) → ℕ
  number_or None = 0
  number_or (Some m) = m.number

  -- what is found twice in a slot has one number
  pub same_number : (o : Option (Member X F)) (a b : Member X F) (n : ℕ) → Some a ≡ o → Some b ≡ o → a.number ≡ n → b.number ≡ n
  same_number o a b n p q e = ap number_or (q ∙ sym p) ∙ e

  numbered_is : (number : ℕ) (m : Member X F) → m.number ≡ number → numbered number (Some (member_value told m)) ≡ Some (member_value told m)
  numbered_is number m is = rw (sym is) (grind arith)

  pub taken_one : (old new : Slab (Member X F)) (front added : ℕ) (served : Area) (key : HubKey) (m : Member X F) → get old key.slot ≡ Some m → m.number ≡ key.number → Updates old new key.slot None
      → IsTakenOut (record { members = slots_seen told old.slots; front = front; area = served; added = added }) (record { members = slots_seen told new.slots; front = front; area = served; added = added }) key (member_value told m) (told m.watcher)
  taken_one old new front added served key m here number up =
      record {
        found = ap (numbered key.number) (seen_at old.slots key.slot ∙ ap (option_map (member_value told)) here) ∙ numbered_is key.number m number;
        is_it = refl;
        members = set_seen old new key.slot None up;
        front = refl;
        same_area = refl;
        added = refl;
      }

  -- ---- one that is told

  module _ (s : Slab (Member X F)) (key : ℕ) (m m' : Member X F) (here : get s key ≡ Some m) where
    present : ContainsKey s key
    present = rw here refl

    pub told_here : get (with_value s key m') key ≡ Some m'
    told_here = (Updates-with_value s key m' present).changed

    pub told_others : (other : ℕ) → other ≢ key → get (with_value s key m') other ≡ get s other
    told_others = (Updates-with_value s key m' present).others

    pub told_many : slab_len (with_value s key m') ≡ slab_len s
    told_many = omega (arith, sum_by-set (λ (o : Option (Member X F)). cond (is_some o) 1 0) s.slots key (Some m') None (ContainsKey-within s key present), ap {B = ℕ} (λ (o : Option (Member X F)). cond (is_some o) 1 0) here)

    pub told_slot : (served : Area) (front : ℕ) (rows : List RowValue) → IsTold served front rows (member_value told m) (member_value told m') → IsSlotTold served front rows (slot_seen told s key) (slot_seen told (with_value s key m') key)
    told_slot served front rows is =
        subst (λ (o : Option MemberValue). IsSlotTold served front rows o (slot_seen told (with_value s key m') key)) (sym (ap (option_map (member_value told)) here))
        (member_value told m', ap (option_map (member_value told)) told_here, is)

    pub told_left : (result : Bool) → result ≡ not m.has_left && m'.has_left → (m.has_left ≡ true → m'.has_left ≡ true) → count_left (slots_seen told (with_value s key m').slots) ≡ count_left (slots_seen told s.slots) + cond result 1 0
    told_left result is stays = counted stays ∙ ap (λ (b : Bool). count_left (slots_seen told s.slots) + cond b 1 0) (sym is)
      where
        counted : (m.has_left ≡ true → m'.has_left ≡ true) → count_left (slots_seen told (with_value s key m').slots) ≡ count_left (slots_seen told s.slots) + cond (not m.has_left && m'.has_left) 1 0
        counted stays =
            let ys = slots_seen told s.slots in
            let within : key < length ys = omega (arith, ContainsKey-within s key present, length-map s.slots (option_map (member_value told))) in
            let is : slots_seen told (with_value s key m').slots ≡ set ys key (Some (member_value told m')) = map-set (option_map (member_value told)) s.slots key (Some m') in
            let was : get_or ys key None ≡ Some (member_value told m) = seen_at s.slots key ∙ ap (option_map (member_value told)) here in
            let sums : count_left (set ys key (Some (member_value told m'))) + cond (has_left (get_or ys key None)) 1 0 ≡ count_left ys + cond m'.has_left 1 0 = sum_by-set (λ (o : Option MemberValue). cond (has_left o) 1 0) ys key (Some (member_value told m')) None within in
            let old : cond (has_left (get_or ys key None)) 1 0 ≡ cond m.has_left 1 0 = ap {B = ℕ} (λ (o : Option MemberValue). cond (has_left o) 1 0) was in
            ap count_left is ∙ omega (arith, sums, old, counted_once m.has_left m'.has_left stays)

  -- no more left than there are
  pub left_few : (slots : List (Option (Member X F))) → count_left (slots_seen told slots) ≤ count_by is_some slots
  left_few [] = omega arith
  left_few (None ∷ ss) = omega (arith, left_few ss, sum_by-cons (λ (o : Option MemberValue). cond (has_left o) 1 0) None (slots_seen told ss), sum_by-cons (λ (o : Option (Member X F)). cond (is_some o) 1 0) None ss)
  left_few (Some m ∷ ss) = omega (arith, left_few ss, at_most_one m.has_left, sum_by-cons (λ (o : Option MemberValue). cond (has_left o) 1 0) (Some (member_value told m)) (slots_seen told ss), sum_by-cons (λ (o : Option (Member X F)). cond (is_some o) 1 0) (Some m) ss)

  -- and no more leave than were ever added
  pub few_after : (s0 s s' : Slab (Member X F)) (left left' added : ℕ) → count_left (slots_seen told s.slots) ≡ count_left (slots_seen told s0.slots) + left → count_left (slots_seen told s'.slots) ≡ count_left (slots_seen told s.slots) + left'
      → slab_len s' ≡ slab_len s → slab_len s ≡ slab_len s0 → slab_len s0 ≤ added → left + left' ≤ added
  few_after s0 s s' left left' added counted more many same few = omega (arith, left_few s'.slots, counted, more, many, same, few)

  -- ---- all of them, one slot after the other

  module _ (served : Area) (front : ℕ) (rows : List RowValue) (s0 : Slab (Member X F)) where
    -- the slots below this one are told, of whom so many left, and the others are as they were
    pub record AreToldBelow (s : Slab (Member X F)) (i left : ℕ) : Type 0 where
      pub below : (k : ℕ) → k < i → IsSlotTold served front rows (slot_seen told s0 k) (slot_seen told s k)
      pub above : (k : ℕ) → i ≤ k → get s k ≡ get s0 k
      pub many : slab_len s ≡ slab_len s0
      pub counted : count_left (slots_seen told s.slots) ≡ count_left (slots_seen told s0.slots) + left

    pub none_told : AreToldBelow s0 0 0
    none_told = record { below = λ k lt. absurd (omega (arith, lt)); above = λ k le. refl; many = refl; counted = omega arith }

    pub told_more : (s s' : Slab (Member X F)) (i left left' : ℕ) → AreToldBelow s i left → IsSlotTold served front rows (slot_seen told s i) (slot_seen told s' i) → ((other : ℕ) → other ≢ i → get s' other ≡ get s other) → slab_len s' ≡ slab_len s
        → count_left (slots_seen told s'.slots) ≡ count_left (slots_seen told s.slots) + left' → AreToldBelow s' (i + 1) (left + left')
    told_more s s' i left left' p here others many counted =
        record {
          below = λ k lt.
              elim (cases_eq k i) [
                | inl same ↦ subst (λ (j : ℕ). IsSlotTold served front rows (slot_seen told s0 j) (slot_seen told s' j)) (sym same) (subst (λ (o : Option (Member X F)). IsSlotTold served front rows (option_map (member_value told) o) (slot_seen told s' i)) (p.above i (omega arith)) here)
                | inr differs ↦ subst (λ (o : Option (Member X F)). IsSlotTold served front rows (slot_seen told s0 k) (option_map (member_value told) o)) (sym (others k differs)) (p.below k (omega (arith, lt, differs)))
              ];
          above = λ k le. others k (λ e. omega (arith, e, le)) ∙ p.above k (omega (arith, le));
          many = many ∙ p.many;
          counted = counted ∙ ap (λ n. n + left') p.counted ∙ omega arith;
        }

    pub told_all : (s : Slab (Member X F)) (n left added len front' added' : ℕ) (served' : Area) → AreToldBelow s n left → length s0.slots ≤ n → len ≡ length rows → front' ≡ front + len → served' ≡ served → added' ≡ added
        → IsPumped (record { members = slots_seen told s0.slots; front = front; area = served; added = added }) (record { members = slots_seen told s.slots; front = front'; area = served'; added = added' }) rows left
    told_all s n left added len front' added' served' p past many front_is area_is added_is =
        record {
          told = λ slot. subst (λ (o : Option MemberValue). IsSlotTold served front rows o (hub_slot (slots_seen told s.slots) slot)) (sym (seen_at s0.slots slot)) (subst (λ (o : Option MemberValue). IsSlotTold served front rows (slot_seen told s0 slot) o) (sym (seen_at s.slots slot)) (at slot));
          counted = p.counted;
          front = front_is ∙ ap (λ k. front + k) many;
          same_area = area_is;
          added = added_is;
        }
      where
        at : (slot : ℕ) → IsSlotTold served front rows (slot_seen told s0 slot) (slot_seen told s slot)
        at slot =
            elim (cases_lt slot n) [
              | inl lt ↦ p.below slot lt
              | inr le ↦
                  let none : get s0 slot ≡ None = get_or_past s0.slots slot None (omega (arith, le, past)) in
                  let here : slot_seen told s0 slot ≡ None = ap (option_map (member_value told)) none in
                  let now : slot_seen told s slot ≡ None = ap (option_map (member_value told)) (p.above slot le ∙ none) in
                  subst (λ (o : Option MemberValue). IsSlotTold served front rows o (slot_seen told s slot)) (sym here) now
            ]
