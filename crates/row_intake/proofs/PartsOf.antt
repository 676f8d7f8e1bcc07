-- Parts of lists, in their order.
use Rattle.std.proofs.Common.{inl, inr, List, [], ◌∷◌, ◌++◌, refl}
use Rattle.row_intake.specs.Kept.{IsPart}

module _ {A : Type 0} where
  pub part_more : (xs ys more : List A) → IsPart xs ys → IsPart xs (ys ++ more)
  part_more [] ys more h = tt
  part_more (x ∷ xs) [] more h = absurd h
  part_more (x ∷ xs) (y ∷ ys) more (inl h) = inl (h.0, part_more xs ys more h.1)
  part_more (x ∷ xs) (y ∷ ys) more (inr h) = inr (part_more (x ∷ xs) ys more h)

  last_part : (x : A) (ys : List A) → IsPart (x ∷ []) (ys ++ x ∷ [])
  last_part x [] = inl (refl, tt)
  last_part x (y ∷ ys) = inr (last_part x ys)

  pub part_with : (xs ys : List A) (x : A) → IsPart xs ys → IsPart (xs ++ x ∷ []) (ys ++ x ∷ [])
  part_with [] ys x h = last_part x ys
  part_with (z ∷ xs) [] x h = absurd h
  part_with (z ∷ xs) (y ∷ ys) x (inl h) = inl (h.0, part_with xs ys x h.1)
  part_with (z ∷ xs) (y ∷ ys) x (inr h) = inr (part_with (z ∷ xs) ys x h)
