-- Two pumps, one after the other, are one pump of both slices; and what a pump is in the words of a log.
use Rattle.std.proofs.Common.{◌≡◌, ℕ, suc, ◌+◌, Bool, true, false, cond, List, [], ◌∷◌, ◌++◌, length, Option, Some, None, refl, sym, ap, subst, ◌∙◌, arith, length-append}
use Rattle.std.proofs.lemmas.List.Sums.{sum_by-cons}
use Rattle.willow_entry.specs.Row.{RowValue}
use Rattle.willow_area.specs.declared.area.Area.{Area}
use Rattle.sub_hub.specs.Heard.{Note, notes_from, rows_between, heard}
use Rattle.sub_hub.specs.Watchers.{HearsEach, HearsUntil, IsToldOf}
use Rattle.sub_hub.specs.Hubs.{MemberValue, HubValue, hub_slot, IsTold, IsSlotTold, has_left, count_left, IsPumped}
use Rattle.sub_hub.proofs.Hearing.{told_nothing, told_both, heard_behind}

pub some_is : {v w : MemberValue} → Some v ≡ Some w → v ≡ w
some_is {v} e = ap or_v e
  where
    or_v : Option MemberValue → MemberValue
    or_v None = v
    or_v (Some x) = x

-- ---- one pump after the other

module _ (served : Area) (front : ℕ) (xs ys : List RowValue) where
  told_twice : (m m' m'' : MemberValue) → IsTold served front xs m m' → IsTold served (front + length xs) ys m' m'' → IsTold served front (xs ++ ys) m m''
  told_twice m m' m'' p q =
      let next : IsToldOf m'.has_left m''.has_left m'.facts m''.facts (notes_from m.area served (front + length xs) ys) =
      subst (λ (own : Area). IsToldOf m'.has_left m''.has_left m'.facts m''.facts (notes_from own served (front + length xs) ys)) p.same_area q.told in
      record {
        number = q.number ∙ p.number;
        same_area = q.same_area ∙ p.same_area;
        told =
            subst (λ (notes : List Note). IsToldOf m.has_left m''.has_left m.facts m''.facts notes) (sym (heard_behind m.area served front xs ys))
            (told_both m.has_left m'.has_left m''.has_left m.facts m'.facts m''.facts _ _ p.told next);
      }

  slot_twice : (a b c : Option MemberValue) → IsSlotTold served front xs a b → IsSlotTold served (front + length xs) ys b c → IsSlotTold served front (xs ++ ys) a c
  slot_twice None b c p q = subst (λ (o : Option MemberValue). IsSlotTold served (front + length xs) ys o c) p q
  slot_twice (Some m) b c p q =
      let r = subst (λ (o : Option MemberValue). IsSlotTold served (front + length xs) ys o c) p.1 q in
      (r.0, r.1, told_twice m p.0 r.0 p.2 r.2)

pub pumped_twice : (a b c : HubValue) (xs ys : List RowValue) (n m : ℕ) → IsPumped a b xs n → IsPumped b c ys m → IsPumped a c (xs ++ ys) (n + m)
pumped_twice a b c xs ys n m p q =
    record {
      told = λ slot. slot_twice a.area a.front xs ys (hub_slot a.members slot) (hub_slot b.members slot) (hub_slot c.members slot) (p.told slot)
          (subst (λ (k : ℕ). IsSlotTold a.area k ys (hub_slot b.members slot) (hub_slot c.members slot)) p.front
          (subst (λ (s : Area). IsSlotTold s b.front ys (hub_slot b.members slot) (hub_slot c.members slot)) p.same_area (q.told slot)));
      counted = q.counted ∙ ap (λ k. k + m) p.counted ∙ omega arith;
      front = q.front ∙ ap (λ k. k + length ys) p.front ∙ omega (arith, length-append xs ys);
      same_area = q.same_area ∙ p.same_area;
      added = q.added ∙ p.added;
    }

nothing_told : (served : Area) (front : ℕ) (slot : Option MemberValue) → IsSlotTold served front [] slot slot
nothing_told served front None = refl
nothing_told served front (Some m) = (m, refl, record { number = refl; same_area = refl; told = told_nothing m.has_left m.facts })

pub pumped_nothing : (a : HubValue) → IsPumped a a [] 0
pumped_nothing a =
    record {
      told = λ slot. nothing_told a.area a.front (hub_slot a.members slot);
      counted = omega arith;
      front = omega arith;
      same_area = refl;
      added = refl;
    }

none_left : (members : List (Option MemberValue)) → ((slot : ℕ) → hub_slot members slot ≡ None) → count_left members ≡ 0
none_left [] vacant = refl
none_left (None ∷ members) vacant = omega (arith, sum_by-cons (λ (o : Option MemberValue). cond (has_left o) 1 0) None members, none_left members (λ slot. vacant (suc slot)))
none_left (Some m ∷ members) vacant = absurd (cc (vacant 0))

pub pumped_nobody : (a b : HubValue) (xs : List RowValue) (n : ℕ) → IsPumped a b xs n → ((slot : ℕ) → hub_slot a.members slot ≡ None) → n ≡ 0
pumped_nobody a b xs n p vacant =
    let after : (slot : ℕ) → hub_slot b.members slot ≡ None = λ slot. subst (λ (o : Option MemberValue). IsSlotTold a.area a.front xs o (hub_slot b.members slot)) (vacant slot) (p.told slot) in
    omega (arith, p.counted, none_left a.members vacant, none_left b.members after)

-- ---- in the words of a log

-- what a watcher is told by a pump
pub told_at : (old new : HubValue) (rows : List RowValue) (left slot : ℕ) (m m' : MemberValue) → IsPumped old new rows left → hub_slot old.members slot ≡ Some m → hub_slot new.members slot ≡ Some m' → IsTold old.area old.front rows m m'
told_at old new rows left slot m m' p was is =
    let told = subst (λ (o : Option MemberValue). IsSlotTold old.area old.front rows o (hub_slot new.members slot)) was (p.told slot) in
    subst (λ (v : MemberValue). IsTold old.area old.front rows m v) (some_is (sym told.1 ∙ is)) told.2

module _ (old new : HubValue) (log : List RowValue) (to left slot : ℕ) (m m' : MemberValue) (p : IsPumped old new (rows_between log old.front to) left) (was : hub_slot old.members slot ≡ Some m) (is : hub_slot new.members slot ≡ Some m') where
  -- by whether it had left, and whether it has
  told_as : (b b' : Bool) → m.has_left ≡ b → m'.has_left ≡ b' → IsToldOf b b' m.facts m'.facts (heard log m.area old.area old.front to)
  told_as b b' had has = subst (λ (x : Bool). IsToldOf b x m.facts m'.facts (heard log m.area old.area old.front to)) has (subst (λ (x : Bool). IsToldOf x m'.has_left m.facts m'.facts (heard log m.area old.area old.front to)) had (told_at old new _ left slot m m' p was is).told)

  pub stays_and_hears : m.has_left ≡ false → m'.has_left ≡ false → HearsEach m.facts m'.facts (heard log m.area old.area old.front to)
  stays_and_hears = told_as false false

  pub leaves_and_heard : m.has_left ≡ false → m'.has_left ≡ true → HearsUntil m.facts m'.facts (heard log m.area old.area old.front to)
  leaves_and_heard = told_as false true

  pub left_hears_nothing : m.has_left ≡ true → (m'.has_left ≡ true) × (m'.facts ≡ m.facts)
  left_hears_nothing had = told_as true m'.has_left had refl
