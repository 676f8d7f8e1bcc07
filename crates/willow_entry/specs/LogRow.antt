-- Rows of a log: each with the pass that offered it.
use Rattle.std.specs.Prelude.{ℕ}
use Rattle.willow_entry.specs.declared.row.LogRow.{LogRow}
use Rattle.willow_entry.specs.Row.{RowValue}

-- the number of the pass, and what contracts see of the row
pub record LogValue : Type 0 where
  pub pass : ℕ
  pub row : RowValue

-- what contracts see of a row of a log
abbrev pub log_value : {R : Type 0} → (R → RowValue) → LogRow R → LogValue
log_value value logged = record { pass = logged.pass; row = value logged.row }
