-- The order of the own rows by time, which a side may have beside them.
use Rattle.std.specs.Prelude.{ℕ, List, Option, None, Some}
use Rattle.willow_entry.specs.Row.{RowValue}
use Rattle.block_store.specs.ByTime.{IsTimeOrder}

-- where there is an order, it is that of the rows by time
abbrev pub IsOrderOf : Option (List ℕ) → List RowValue → Type 0
IsOrderOf None rows = Unit {0}
IsOrderOf (Some order) rows = IsTimeOrder order rows
