-- Where in a list the items stand that pass a test.
use Rattle.std.specs.Prelude.{ℕ, ◌+◌, Bool, List, [], ◌∷◌, if◌then◌else◌}

-- rising, where the list starts at the position
abbrev pub positions_from : {X : Type 0} → (X → Bool) → ℕ → List X → List ℕ
positions_from test at [] = []
positions_from test at (x ∷ xs) = if test x then at ∷ positions_from test (at + 1) xs else positions_from test (at + 1) xs

-- the positions, rising from 0, of the items that pass the test
abbrev pub positions : {X : Type 0} → (X → Bool) → List X → List ℕ
positions test xs = positions_from test 0 xs
