-- The summary of a drill.
use Rattle.std.specs.Prelude.{ℕ, List, [], ◌∷◌, ◌++◌, codes, decimal}
use Rattle.peer_listing.specs.declared.summary.DrillCounts.{DrillCounts}

-- a name and a number, with one space between and a newline at the end
abbrev pub number_line : List ℕ → ℕ → List ℕ
number_line name number = name ++ (codes " " ++ (decimal number ++ 10 ∷ []))

-- `items I turns T`, with a newline at the end
abbrev pub exchange_line : ℕ → ℕ → List ℕ
exchange_line items turns = codes "items " ++ (decimal items ++ (codes " turns " ++ (decimal turns ++ 10 ∷ [])))

-- the rows that were generated, the live rows of both sides before, and those after, a line each, and one with the
-- items and the turns of the exchange
abbrev pub drill_summary : DrillCounts → List ℕ
drill_summary counts =
    number_line (codes "rows") counts.rows
    ++ (number_line (codes "left") counts.left
    ++ (number_line (codes "right") counts.right
    ++ (number_line (codes "left after") counts.left_after
    ++ (number_line (codes "right after") counts.right_after
    ++ exchange_line counts.items counts.turns))))
