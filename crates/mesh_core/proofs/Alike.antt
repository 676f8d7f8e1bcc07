-- Whether two lists of rows are the same.
use Rattle.std.proofs.Common.{◌≡◌, Bool, true, List}
use Rattle.std.specs.Prelude.{◌↔◌}
use Rattle.std.specs.Cmp.Lexicographic.{pointwise}
use Rattle.std.proofs.lemmas.Slice.Eq.{slice_eq-Decides}
use Rattle.willow_entry.specs.Row.{RowValue, same_row}
use Rattle.willow_entry.proofs.RowLaws.{same_row_decides}

-- rows that are compared one by one are the same just where the lists are
pub same_lists : (rows others : List RowValue) (b : Bool) → b ≡ pointwise same_row rows others → (b ≡ true) ↔ (rows ≡ others)
same_lists rows others b is = slice_eq-Decides same_row_decides rows others b is
