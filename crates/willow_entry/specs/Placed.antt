-- What becomes of a row that is offered to a store.
use Rattle.std.specs.Prelude.{◌≡◌, List, count_by, Result, Ok, Err}
use Rattle.willow_entry.specs.declared.placed.Placed.{Placed}
use Rattle.willow_entry.specs.declared.placed.Placed.TheVariants.{Stored, Kept}
use Rattle.willow_entry.specs.Row.{RowValue, is_dominating, HasCovering, IsCoveringAt}

-- Stored comes just where no row covers the new one, with the number of rows that it dominates;
-- Kept names a row that covers it.
abbrev pub IsPlaced : List RowValue → RowValue → Placed → Type 0
IsPlaced rows r (Stored pruned) = (HasCovering rows r → ⊥) × (pruned ≡ count_by (λ s. is_dominating r s) rows)
IsPlaced rows r (Kept by) = IsCoveringAt rows by r

-- what holds where the row was kept out
abbrev pub OnKept : {E : Type 0} → Result Placed E → Type 0 → Type 0
OnKept (Ok (Kept by)) P = P
OnKept (Ok (Stored pruned)) P = Unit {0}
OnKept (Err e) P = Unit {0}
