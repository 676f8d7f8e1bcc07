-- What tests by an order say.
use Rattle.std.proofs.Common.{◌≡◌, true, false, refl, sym, ap, ◌∙◌}
use Rattle.std.specs.declared.cmp.Ordering.{Ordering}
use Rattle.std.specs.declared.cmp.Ordering.TheVariants.{Less, Equal, Greater}
use Rattle.std.specs.Ordering.{ordering_reverse, is_lt, is_le, is_gt}
use Rattle.std.specs.Cmp.{IsTotalOrder}
use Rattle.std.proofs.lemmas.Cmp.{upto}

pub less_is : (o : Ordering) → is_lt o ≡ true → o ≡ Less
less_is Less h = refl
less_is Equal h = absurd cc
less_is Greater h = absurd cc

pub is_less : (o : Ordering) → o ≡ Less → is_lt o ≡ true
is_less o h = ap is_lt h

pub not_greater : (o : Ordering) → is_le o ≡ true → is_gt o ≡ false
not_greater Less h = refl
not_greater Equal h = refl
not_greater Greater h = absurd cc

pub at_most_is : (o : Ordering) → is_gt o ≡ false → is_le o ≡ true
at_most_is Less h = refl
at_most_is Equal h = refl
at_most_is Greater h = absurd cc

pub less_at_most : (o : Ordering) → is_lt o ≡ true → is_gt o ≡ false
less_at_most Less h = refl
less_at_most Equal h = absurd cc
less_at_most Greater h = absurd cc

reversed_le : (o : Ordering) → is_lt (ordering_reverse o) ≡ false → is_le o ≡ true
reversed_le Less h = refl
reversed_le Equal h = refl
reversed_le Greater h = absurd cc

reversed_lt : (o : Ordering) → is_le o ≡ true → is_lt (ordering_reverse o) ≡ false
reversed_lt Less h = refl
reversed_lt Equal h = refl
reversed_lt Greater h = absurd cc

module _ {A : Type 0} (cmp : A → A → Ordering) (order : IsTotalOrder cmp) where
  pub lt_then_lt : (x y z : A) → is_lt (cmp x y) ≡ true → is_lt (cmp y z) ≡ true → is_lt (cmp x z) ≡ true
  lt_then_lt x y z h k = is_less (cmp x z) (order.trans x y z (less_is (cmp x y) h) (less_is (cmp y z) k))

  pub lt_then_le : (x y z : A) → is_lt (cmp x y) ≡ true → is_le (cmp y z) ≡ true → is_le (cmp x z) ≡ true
  lt_then_le x y z h k = at_most_is (cmp x z) (upto order x y z (less_at_most (cmp x y) h) (not_greater (cmp y z) k))

  -- not below is at least
  pub at_least : (x y : A) → is_lt (cmp x y) ≡ false → is_le (cmp y x) ≡ true
  at_least x y h = reversed_le (cmp y x) (ap is_lt (sym (order.antisymm x y)) ∙ h)

  pub not_below : (x y : A) → is_le (cmp y x) ≡ true → is_lt (cmp x y) ≡ false
  not_below x y h = ap is_lt (order.antisymm x y) ∙ reversed_lt (cmp y x) h
