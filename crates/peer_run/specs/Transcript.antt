-- What two sides said, as one text.
use Rattle.std.specs.Prelude.{ℕ, ◌+◌, ◌%◌, List, [], ◌∷◌, ◌++◌, length}
use Rattle.std.specs.Int.{w32, to_be_bytes}

-- a byte for the side, 0 the one that begins and 1 the other, the turn's length in four bytes, and the turn
abbrev pub turn_told : ℕ → List ℕ → List ℕ
turn_told side turn = side ∷ (to_be_bytes w32 (length turn) ++ turn)

-- the turns from this one on, counted from 0
abbrev pub turns_told : ℕ → List (List ℕ) → List ℕ
turns_told i [] = []
turns_told i (turn ∷ turns) = turn_told (i % 2) turn ++ turns_told (i + 1) turns

-- all of them: the sides take turns
abbrev pub transcript : List (List ℕ) → List ℕ
transcript turns = turns_told 0 turns
