-- Which items of a longer list are new, and how many.
use Rattle.std.proofs.Common.{◌≡◌, suc, Bool, true, false, cond, List, [], ◌∷◌, ◌++◌, length, ◌+◌, ◌≤◌, refl, ap, arith}
use Rattle.std.specs.List.{list_any}
use Rattle.willow_entry.specs.Pruning.{new_after}
use Rattle.willow_entry.specs.Row.{RowValue, is_covering, new}

-- a longer list has no fewer new items
pub new_after-longer : {X : Type 0} (covers : X → X → Bool) (earlier xs ys : List X) → length (new_after covers earlier xs) ≤ length (new_after covers earlier (xs ++ ys))
unfolding new_after
new_after-longer covers earlier [] ys = omega arith
new_after-longer {X} covers earlier (x ∷ xs) ys = step (list_any (λ z. covers z x) earlier) (new_after-longer covers (earlier ++ x ∷ []) xs ys) where
  step : (b : Bool) → length (new_after covers (earlier ++ x ∷ []) xs) ≤ length (new_after covers (earlier ++ x ∷ []) (xs ++ ys))
      → length (cond b (new_after covers (earlier ++ x ∷ []) xs) (x ∷ new_after covers (earlier ++ x ∷ []) xs))
      ≤ length (cond b (new_after covers (earlier ++ x ∷ []) (xs ++ ys)) (x ∷ new_after covers (earlier ++ x ∷ []) (xs ++ ys)))
  step true more = more
  step false more = omega (arith, more)

-- no more items are new than there are
pub new_after-fewer : {X : Type 0} (covers : X → X → Bool) (earlier xs : List X) → length (new_after covers earlier xs) ≤ length xs
unfolding new_after
new_after-fewer covers earlier [] = omega arith
new_after-fewer {X} covers earlier (x ∷ xs) = step (list_any (λ z. covers z x) earlier) (new_after-fewer covers (earlier ++ x ∷ []) xs) where
  step : (b : Bool) → length (new_after covers (earlier ++ x ∷ []) xs) ≤ length xs
      → length (cond b (new_after covers (earlier ++ x ∷ []) xs) (x ∷ new_after covers (earlier ++ x ∷ []) xs)) ≤ suc (length xs)
  step true more = omega (arith, more)
  step false more = omega (arith, more)

-- with more items behind them no more are new than these and all of those
pub new_after-more : {X : Type 0} (covers : X → X → Bool) (earlier xs ys : List X) → length (new_after covers earlier (xs ++ ys)) ≤ length (new_after covers earlier xs) + length ys
unfolding new_after
new_after-more covers earlier [] ys = omega (arith, new_after-fewer covers earlier ys)
new_after-more {X} covers earlier (x ∷ xs) ys = step (list_any (λ z. covers z x) earlier) (new_after-more covers (earlier ++ x ∷ []) xs ys) where
  step : (b : Bool) → length (new_after covers (earlier ++ x ∷ []) (xs ++ ys)) ≤ length (new_after covers (earlier ++ x ∷ []) xs) + length ys
      → length (cond b (new_after covers (earlier ++ x ∷ []) (xs ++ ys)) (x ∷ new_after covers (earlier ++ x ∷ []) (xs ++ ys)))
      ≤ length (cond b (new_after covers (earlier ++ x ∷ []) xs) (x ∷ new_after covers (earlier ++ x ∷ []) xs)) + length ys
  step true more = more
  step false more = omega (arith, more)

-- a longer list has the same new items first
pub new_after-behind : {X : Type 0} (covers : X → X → Bool) (earlier xs ys : List X) → (more : List X) × (new_after covers earlier (xs ++ ys) ≡ new_after covers earlier xs ++ more)
unfolding new_after
new_after-behind covers earlier [] ys = (new_after covers earlier ys, refl)
new_after-behind {X} covers earlier (x ∷ xs) ys = step (list_any (λ z. covers z x) earlier) (new_after-behind covers (earlier ++ x ∷ []) xs ys) where
  step : (b : Bool) → (more : List X) × (new_after covers (earlier ++ x ∷ []) (xs ++ ys) ≡ new_after covers (earlier ++ x ∷ []) xs ++ more)
      → (more : List X) × (cond b (new_after covers (earlier ++ x ∷ []) (xs ++ ys)) (x ∷ new_after covers (earlier ++ x ∷ []) (xs ++ ys))
      ≡ cond b (new_after covers (earlier ++ x ∷ []) xs) (x ∷ new_after covers (earlier ++ x ∷ []) xs) ++ more)
  step true more = more
  step false more = (more.0, ap (λ (l : List X). x ∷ l) more.1)

pub new-longer : (xs ys : List RowValue) → (more : List RowValue) × (new (xs ++ ys) ≡ new xs ++ more)
new-longer xs ys = new_after-behind is_covering [] xs ys
