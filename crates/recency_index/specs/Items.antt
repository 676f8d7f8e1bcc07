-- What the index has of its arena.
use Rattle.std.specs.Prelude.{ℕ, List, map}
use Rattle.recency_index.specs.declared.ranked.Ranked.{Ranked}

-- the items of a list of slots and items
abbrev pub items_in : List (ℕ × Ranked) → List Ranked
items_in pairs = map (λ pair. pair.1) pairs
