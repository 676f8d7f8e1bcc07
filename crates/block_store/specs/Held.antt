-- Rows that stand behind shared references.
use Rattle.std.specs.Prelude.{List, map}
use Rattle.std.specs.declared.sync.Arc.{Arc}
use Rattle.willow_entry.specs.Row.{RowValue}

-- the rows
abbrev pub rows_of : {R A : Type 0} → List (Arc R A) → List R
rows_of arcs = map (λ a. a.value) arcs

-- what contracts see of the rows
abbrev pub values_of : {R A : Type 0} → (R → RowValue) → List (Arc R A) → List RowValue
values_of value arcs = map (λ a. value a.value) arcs
