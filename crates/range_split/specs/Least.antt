-- The least of some subspaces.
use Rattle.std.specs.Prelude.{◌≡◌, ℕ, false, List, [], ◌∷◌, filter, Option, Some, None, Contains}
use Rattle.std.specs.Ordering.{is_gt, ord_min}
use Rattle.std.specs.declared.cmp.Ordering.TheVariants.{Less}
use Rattle.willow_entry.specs.Entry.{bytes_cmp}

-- the lesser of two subspaces, of which either may be wanting
abbrev pub lesser : Option (List ℕ) → Option (List ℕ) → Option (List ℕ)
lesser None other = other
lesser (Some key) None = Some key
lesser (Some key) (Some other) = Some (ord_min bytes_cmp key other)

-- the least of the subspaces, where there are any
abbrev pub least : List (List ℕ) → Option (List ℕ)
least [] = None
least (key ∷ keys) = lesser (Some key) (least keys)

-- the least of those that are above a subspace, where any is
abbrev pub least_above : List ℕ → List (List ℕ) → Option (List ℕ)
least_above low keys = least (filter (λ key. is_gt (bytes_cmp key low)) keys)

-- the key is above the low one, and of the keys that are, none is below it
pub record IsNext (low : List ℕ) (keys : List (List ℕ)) (key : List ℕ) : Type 0 where
  pub member : Contains keys key
  pub above : bytes_cmp low key ≡ Less
  pub least : (other : List ℕ) → Contains keys other → bytes_cmp low other ≡ Less → is_gt (bytes_cmp key other) ≡ false
