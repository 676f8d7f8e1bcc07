-- What an exchange goes by. Rows, boxes and cuts stay abstract: whoever uses these words says what they are.
use Rattle.std.specs.Prelude.{ℕ, Bool, List, Option, filter}

pub record Rules (R X C : Type 0) : Type 0 where
  -- two rows are the same
  pub same_row : R → R → Bool
  -- two fingerprints are the same
  pub same_print : List ℕ → List ℕ → Bool
  -- the box has the row
  pub has : X → R → Bool
  -- the fingerprint of some rows
  pub print : List R → List ℕ
  -- where to cut a box that has these rows of a side; None where they are few enough to be sent
  pub choice : List R → Option C
  -- the parts of a box at a cut, in order; none where the cut lies outside the box
  pub parts : X → C → List X
  -- rows that a side may be sent for a box: each is in it, and they stand in their order
  pub is_legal : X → List R → Bool

-- the rows of a side that a box has, in order
abbrev pub box_rows : {R X C : Type 0} → Rules R X C → X → List R → List R
box_rows g x l = filter (g.has x) l

-- the fingerprint of the rows of a side that a box has
abbrev pub box_print : {R X C : Type 0} → Rules R X C → X → List R → List ℕ
box_print g x l = g.print (box_rows g x l)
