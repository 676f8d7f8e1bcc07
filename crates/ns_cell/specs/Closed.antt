-- The log of a closed cell.
use Rattle.std.specs.Prelude.{◌≡◌, ℕ, ◌≤◌, ◌==◌, List, All, Contains, count_by}
use mathlib.Core.List.{IsPrefix}
use Rattle.willow_entry.specs.declared.row.LogRow.{LogRow}
use Rattle.log_rule.specs.Views.{rows_of_pass}
use Rattle.ns_cell.specs.Passes.{PassValue}

-- Each pass has seen a prefix of the log, and one of them all of it. The rows of each pass's number are its own list, in
-- the log and in what the pass has seen. Each row is of one of the passes, and no two passes have one number.
pub record IsClosed {R : Type 0} (passes : List (PassValue R)) (log : List (LogRow R)) : Type 0 where
  pub prefixes : All (λ (pass : PassValue R). IsPrefix pass.seen log) passes
  pub longest : (pass : PassValue R) × Contains passes pass × (pass.seen ≡ log)
  pub own : All (λ (pass : PassValue R). rows_of_pass pass.number log ≡ pass.own) passes
  pub own_seen : All (λ (pass : PassValue R). rows_of_pass pass.number pass.seen ≡ pass.own) passes
  pub known : All (λ (row : LogRow R). (pass : PassValue R) × Contains passes pass × (pass.number ≡ row.pass)) log
  pub apart : (number : ℕ) → count_by (λ (pass : PassValue R). number == pass.number) passes ≤ 1
