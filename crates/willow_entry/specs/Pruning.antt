-- What a list keeps of its items where some items dominate others and an order gives each item its place.
use Rattle.std.specs.Prelude.{◌≡◌, ℕ, Bool, true, false, not, List, [], ◌∷◌, ◌++◌, take, drop, filter, if◌then◌else◌, ◌⊎◌}
use Rattle.std.specs.List.{list_any, Contains, AllByRecursion}
use Rattle.std.specs.Ordering.{match_ordering, is_lt}
use Rattle.std.specs.declared.cmp.Ordering.{Ordering}
use Rattle.std.specs.declared.cmp.Ordering.TheVariants.{Less, Equal}
use Rattle.std.specs.Cmp.{IsTotalOrder}

-- x in its place among rising items, where that place is free
abbrev pub placed : {X : Type 0} → (X → X → Ordering) → X → List X → List X
placed cmp x [] = x ∷ []
placed cmp x (y ∷ ys) = match_ordering (cmp x y) (x ∷ y ∷ ys) (y ∷ ys) (y ∷ placed cmp x ys)

-- the items by rising place, one for each place
abbrev pub rising : {X : Type 0} → (X → X → Ordering) → List X → List X
rising cmp [] = []
rising cmp (x ∷ xs) = placed cmp x (rising cmp xs)

-- the first n items are below x, and no later one is
pub record IsPlace {X : Type 0} (cmp : X → X → Ordering) (x : X) (ys : List X) (n : ℕ) : Type 0 where
  pub below : AllByRecursion (λ y. cmp y x ≡ Less) (take n ys)
  pub beyond : AllByRecursion (λ y. is_lt (cmp y x) ≡ false) (drop n ys)

-- no item of the list dominates x
abbrev pub is_undominated : {X : Type 0} → (X → X → Bool) → List X → X → Bool
is_undominated dominates xs x = not (list_any (λ y. dominates y x) xs)

-- the items that no item of the list dominates, by rising place
unfoldable pub pruned : {X : Type 0} → (X → X → Bool) → (X → X → Ordering) → List X → List X
pruned dominates cmp xs = rising cmp (filter (is_undominated dominates xs) xs)

-- of the items that come after the earlier ones, those that nothing before them covers
unfoldable pub new_after : {X : Type 0} → (X → X → Bool) → List X → List X → List X
new_after covers earlier [] = []
new_after covers earlier (x ∷ xs) =
    if list_any (λ y. covers y x) earlier then new_after covers (earlier ++ x ∷ []) xs else x ∷ new_after covers (earlier ++ x ∷ []) xs

-- an item covers itself and what it dominates
abbrev pub Covers : {X : Type 0} → (X → X → Bool) → X → X → Type 0
Covers dominates x y = (x ≡ y) ⊎ (dominates x y ≡ true)

-- the list holds an item that covers y
abbrev pub HasCover : {X : Type 0} → (X → X → Bool) → List X → X → Type 0
HasCover {X} dominates xs y = (x : X) × Contains xs x × Covers dominates x y

-- what pruning needs: domination is a strict order, places are totally ordered, and of two
-- different items at one place one dominates the other
pub record IsPruning {X : Type 0} (dominates : X → X → Bool) (cmp : X → X → Ordering) : Type 0 where
  pub irreflexive : (x : X) → dominates x x ≡ false
  pub transitive : (x y z : X) → dominates x y ≡ true → dominates y z ≡ true → dominates x z ≡ true
  pub total : IsTotalOrder cmp
  pub settled : (x y : X) → cmp x y ≡ Equal → dominates x y ≡ false → dominates y x ≡ false → x ≡ y
