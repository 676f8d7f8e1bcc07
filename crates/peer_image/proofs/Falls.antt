-- The first row that does not stand above the row before it, and that there is none where rows rise.
use Rattle.std.proofs.Common.{◌≡◌, ℕ, ◌+◌, Bool, true, false, cond, List, [], ◌∷◌, Some, None, refl, ap, ◌∙◌, Ordering, Less, Equal, Greater, is_lt}
use Rattle.std.specs.List.{AllByRecursion}
use Rattle.std.specs.List.Sorted.{IsStrictlySortedBy}
use Rattle.willow_entry.specs.Row.{RowValue, inner_place_cmp}
use Rattle.peer_image.specs.declared.refusal.ImageRefusal.TheVariants.{NotRising}
use Rattle.peer_image.specs.Order.{fall_after, first_fall, IsInnerRising}
use Rattle.peer_image.proofs.Inner.{inner_total}

pub fall_end : (k : ℕ) (r : RowValue) → fall_after k r [] ≡ None
unfolding fall_after
fall_end k r = refl

-- the next row does not stand above
pub falls : (k : ℕ) (r s : RowValue) (rows : List RowValue) → is_lt (inner_place_cmp r s) ≡ false → fall_after k r (s ∷ rows) ≡ Some (NotRising k)
unfolding fall_after
falls k r s rows e = ap (λ b. cond b (fall_after (k + 1) s rows) (Some (NotRising k))) e

-- the next row stands above
pub rises : (k : ℕ) (r s : RowValue) (rows : List RowValue) → is_lt (inner_place_cmp r s) ≡ true → fall_after k r (s ∷ rows) ≡ fall_after (k + 1) s rows
unfolding fall_after
rises k r s rows e = ap (λ b. cond b (fall_after (k + 1) s rows) (Some (NotRising k))) e

-- ---- rising

less_from : (o : Ordering) → is_lt o ≡ true → o ≡ Less
less_from Less e = refl
less_from Equal e = absurd cc
less_from Greater e = absurd cc

pub all_above : (r s : RowValue) (rows : List RowValue) → inner_place_cmp r s ≡ Less → AllByRecursion (λ t. inner_place_cmp s t ≡ Less) rows → AllByRecursion (λ t. inner_place_cmp r t ≡ Less) rows
all_above r s [] e up = tt
all_above r s (t ∷ rows) e up = (inner_total.trans r s t e up.0, all_above r s rows e up.1)

none_not_some : (k : ℕ) → Some (NotRising k) ≡ None → ⊥
none_not_some k e = cc

-- where none falls, the rows rise
pub rising_after : (k : ℕ) (r : RowValue) (rows : List RowValue) → fall_after k r rows ≡ None → IsInnerRising (r ∷ rows)
unfolding fall_after IsStrictlySortedBy
rising_after k r [] e = (tt, tt)
rising_after k r (s ∷ rows) e =
    let P : Bool → Type 0 = λ b. is_lt (inner_place_cmp r s) ≡ b → cond b (fall_after (k + 1) s rows) (Some (NotRising k)) ≡ None → IsInnerRising (r ∷ s ∷ rows) in
    let each : (b : Bool) → P b = elim [
      | true ↦ λ q n. (
          let up = rising_after (k + 1) s rows n in
          let less : inner_place_cmp r s ≡ Less = less_from (inner_place_cmp r s) q in
          ((less, all_above r s rows less up.0), up))
      | false ↦ λ q n. absurd (none_not_some k n)
    ] in
    each (is_lt (inner_place_cmp r s)) refl e

pub rising_from_none : (rows : List RowValue) → first_fall rows ≡ None → IsInnerRising rows
unfolding first_fall IsStrictlySortedBy
rising_from_none [] e = tt
rising_from_none (r ∷ rows) e = rising_after 2 r rows e

-- where the rows rise, none falls
pub none_after : (k : ℕ) (r : RowValue) (rows : List RowValue) → IsInnerRising (r ∷ rows) → fall_after k r rows ≡ None
unfolding IsStrictlySortedBy
none_after k r [] up = fall_end k r
none_after k r (s ∷ rows) up = rises k r s rows (ap is_lt up.0.0) ∙ none_after (k + 1) s rows up.1

pub none_from_rising : (rows : List RowValue) → IsInnerRising rows → first_fall rows ≡ None
unfolding first_fall
none_from_rising [] up = refl
none_from_rising (r ∷ rows) up = none_after 2 r rows up
