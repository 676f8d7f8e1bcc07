-- What the laws ask of the rules.
use Rattle.std.specs.Prelude.{◌≡◌, ◌↔◌, ℕ, ◌≤◌, Bool, List, length, Some, IsTrue, filter, count_by, if◌then◌else◌}
use Rattle.std.specs.List.{AllByRecursion}
use Rattle.exchange_rules.specs.Rules.{Rules, box_rows}

-- the tests decide equality
pub record IsDeciding {R X C : Type 0} (g : Rules R X C) : Type 0 where
  pub rows : (r s : R) → IsTrue (g.same_row r s) ↔ (r ≡ s)
  pub prints : (e f : List ℕ) → IsTrue (g.same_print e f) ↔ (e ≡ f)

-- how many of some boxes have a row
abbrev pub boxes_with : {R X C : Type 0} → Rules R X C → R → List X → ℕ
boxes_with g r xs = count_by (λ x. g.has x r) xs

-- a row that the box has is in one part at most, and no other row is in any
abbrev pub HasDisjointParts : {R X C : Type 0} → Rules R X C → Type 0
HasDisjointParts {R} {X} {C} g = (x : X) (cut : C) (r : R) → boxes_with g r (g.parts x cut) ≤ (if g.has x r then 1 else 0)

-- a cut that a side with rows l may choose: it makes two parts or more, each with a row of the side, and whatever row
-- the box has is in one of them
pub record DividesRows {R X C : Type 0} (g : Rules R X C) (l : List R) (x : X) (cut : C) : Type 0 where
  pub several : 2 ≤ length (g.parts x cut)
  pub own : AllByRecursion (λ y. 1 ≤ length (box_rows g y l)) (g.parts x cut)
  pub covers : (r : R) → (if g.has x r then 1 else 0) ≤ boxes_with g r (g.parts x cut)

-- whatever cut the side chooses is such a cut
abbrev pub CanCut : {R X C : Type 0} → Rules R X C → List R → Type 0
CanCut {R} {X} {C} g l = (x : X) (cut : C) → g.choice (box_rows g x l) ≡ Some cut → DividesRows g l x cut

-- what a side may send of its rows is legal, whichever of them it leaves out
abbrev pub CanSend : {R X C : Type 0} → Rules R X C → List R → Type 0
CanSend {R} {X} g l = (x : X) (kept : R → Bool) → IsTrue (g.is_legal x (filter kept (box_rows g x l)))
