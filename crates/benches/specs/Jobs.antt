-- What a worker may take.
use Rattle.std.specs.Prelude.{◌≡◌, All}
use Rattle.willow_entry.specs.Row.{RowValue}
use Rattle.ns_cell.specs.Passes.{CellValue, IsPassOf}
use Rattle.benches.specs.declared.work.Job.{Job}

-- a pass of the cell, and rows of its namespace
pub record IsJobOf {R : Type 0} (value : R → RowValue) (cell : CellValue) (job : Job R) : Type 0 where
  pub pass : IsPassOf cell job.pass
  pub rows : All (λ row. (value row).entry.namespace ≡ cell.namespace) job.rows.items
